-- None of the processes so far leaves a consistent cut.
use Rattle.std.proofs.Common.{◌<◌, ℕ}
use Rattle.def_wide.specs.Tried.{LeavesConsistent}
use Rattle.wide_gates.proofs.way.least_leaving.Given as goal

abbrev pub invariant-loop-p : goal.invariant-loop-p
invariant-loop-p l = (q : ℕ) → q < l.p → ¬ LeavesConsistent l.computation.events l.cut q
