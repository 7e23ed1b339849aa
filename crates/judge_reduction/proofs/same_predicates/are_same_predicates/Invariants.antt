-- The predicates so far are the same.
use Rattle.std.proofs.Common.{map, take}
use Rattle.std.specs.List.{AllZip}
use Rattle.def_orders.specs.Selections.{numbers_in}
use Rattle.def_recordings.specs.Reductions.{IsSamePredicate}
use Rattle.pd_spec.specs.Named.{named_view}
use Rattle.judge_reduction.proofs.same_predicates.are_same_predicates.Given as goal

abbrev pub invariant-loop-i : goal.invariant-loop-i
invariant-loop-i l =
    AllZip (IsSamePredicate (numbers_in l.places l.count)) (map named_view (take l.i l.second))
    (map named_view (take l.i l.first))
