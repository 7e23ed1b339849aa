-- What the loops of `parse_all` keep.
use Rattle.std.proofs.Common.{map, take}
use Rattle.std.specs.List.{AllZip}
use Rattle.def_format.specs.Documents.{IsNamedPredicate}
use Rattle.pd_spec.specs.Named.{named_view}
use Rattle.pd_spec.specs.Outlines.{predicate_outline_view}
use Rattle.pd_spec.proofs.predicates.parse_all.Given as goal

abbrev pub invariant-loop-index : goal.invariant-loop-index
invariant-loop-index l =
    AllZip (IsNamedPredicate l.names) (map predicate_outline_view (take l.index l.predicates))
    (map named_view l.parsed.items)
