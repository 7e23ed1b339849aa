-- What the loop keeps: the texts so far, and those of the values that are left, are those of all.
use Rattle.std.proofs.Common.{◌≡◌, map, drop}
use Rattle.std.specs.Prelude.{string_bytes}
use Rattle.serde_json.specs.Find.{as_str}
use Rattle.serde_json.specs.View.{items_view}
use Rattle.def_format.specs.Documents.{each}
use Rattle.pd_spec.proofs.Each.{onto}
use Rattle.read_sessions.proofs.line.texts_in.Given as goal

abbrev pub invariant-loop-item : goal.invariant-loop-item
invariant-loop-item l =
    each as_str (items_view l.items)
    ≡ onto (map string_bytes l.texts.items) (each as_str (items_view (drop l.item-index l.items)))
