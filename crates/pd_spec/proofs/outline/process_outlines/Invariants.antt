-- What the loops of `process_outlines` keep.
use Rattle.std.proofs.Common.{◌≡◌, map, drop}
use Rattle.serde_json.specs.View.{items_view}
use Rattle.def_format.specs.Documents.{each}
use Rattle.pd_spec.specs.Outlines.{process_in, process_view}
use Rattle.pd_spec.proofs.Each.{onto}
use Rattle.pd_spec.proofs.outline.process_outlines.Given as goal

abbrev pub invariant-loop-item : goal.invariant-loop-item
invariant-loop-item l =
    each process_in (items_view l.items)
    ≡ onto (map process_view l.processes.items) (each process_in (items_view (drop l.item-index l.items)))
