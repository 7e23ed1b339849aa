-- The processes of the items so far, and those of the items that are left, are those of all.
use Rattle.std.proofs.Common.{sym, ◌∙◌, arith}
use Rattle.serde_json.specs.View.{items_view}
use Rattle.def_format.specs.Documents.{each}
use Rattle.pd_spec.specs.Outlines.{process_in, process_view}
use Rattle.pd_spec.proofs.Each.{onto_nothing, each_more, each_none}
use Rattle.pd_spec.proofs.outline.process_outlines.Goals as goal

pub loop-item-init : goal.loop-item-init
loop-item-init c = rw c.new-processes.ensures.items (sym (onto_nothing (each process_in (items_view c.args.items.now))))

pub loop-item-preserved : goal.loop-item-preserved
loop-item-preserved c =
    c.loop-item.invariant
    ∙ each_more process_in process_view c.args.items.now c.loop-item.item-index c.item-item.result
    c.loop-item.processes.items _ c.in-Some.process (omega arith) c.item-item.is c.in-Some.ensures
    c.in_ok-push-in-Some.ensures.items

pub returns-in-None : goal.returns-in-None
returns-in-None c =
    sym (c.loop-item.invariant ∙ each_none process_in c.args.items.now c.loop-item.item-index c.item-item.result _
    (omega arith) c.item-item.is c.in-None.ensures)
