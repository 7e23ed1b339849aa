-- What the reduction says of the predicates so far.
use Rattle.std.proofs.Common.{map, take}
use Rattle.std.specs.List.{AllZip}
use Rattle.judge_lifted.specs.Lifted.{IsLifted}
use Rattle.pd_spec.specs.Named.{named_view}
use Rattle.judge_lifted.proofs.truths.all_lifted.Given as goal

abbrev pub invariant-loop-i : goal.invariant-loop-i
invariant-loop-i l =
    AllZip (IsLifted l.computation) (map named_view (take l.i l.predicates)) l.lifted.items
