-- What the loops of `predicate_outlines` keep.
use Rattle.std.proofs.Common.{◌≡◌, map, drop}
use Rattle.serde_json.specs.View.{items_view}
use Rattle.def_format.specs.Documents.{each}
use Rattle.pd_spec.specs.Outlines.{predicate_in, predicate_outline_view}
use Rattle.pd_spec.proofs.Each.{onto}
use Rattle.pd_spec.proofs.outline.predicate_outlines.Given as goal

abbrev pub invariant-loop-item : goal.invariant-loop-item
invariant-loop-item l =
    each predicate_in (items_view l.items)
    ≡ onto (map predicate_outline_view l.predicates.items) (each predicate_in (items_view (drop l.item-index l.items)))
