-- The texts of the values so far, and those of the values that are left, are those of all.
use Rattle.std.proofs.Common.{sym, ap, ◌∙◌, arith}
use Rattle.std.specs.Prelude.{string_bytes}
use Rattle.serde_json.specs.Find.{as_str}
use Rattle.serde_json.specs.View.{items_view}
use Rattle.def_format.specs.Documents.{each}
use Rattle.pd_spec.proofs.Each.{onto_nothing, each_more, each_none}
use Rattle.read_sessions.specs.Views.{name_view}
use Rattle.read_sessions.proofs.line.texts_in.Goals as goal

pub loop-item-init : goal.loop-item-init
loop-item-init c = rw c.in_ok-texts.ensures.items (sym (onto_nothing (each as_str (items_view c.args.items.now))))

pub loop-item-preserved : goal.loop-item-preserved
loop-item-preserved c =
    c.loop-item.invariant
    ∙ each_more as_str string_bytes c.args.items.now c.loop-item.item-index c.item-item.result
    c.loop-item.texts.items _ c.in-Some.text (omega arith) c.item-item.is
    (ap name_view (sym c.in-Some.is) ∙ c.in_ok-text.ensures) c.in_ok-push-in-Some.ensures.items

pub returns-in-None : goal.returns-in-None
returns-in-None c =
    sym (c.loop-item.invariant ∙ each_none as_str c.args.items.now c.loop-item.item-index c.item-item.result _
    (omega arith) c.item-item.is (ap name_view (sym c.in-None.is) ∙ c.in_ok-text.ensures))
