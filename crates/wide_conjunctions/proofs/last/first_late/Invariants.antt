-- What the loop of `first_late` keeps.
use Rattle.std.proofs.Common.{ℕ, ◌<◌, get_or}
use Rattle.wide_conjunctions.specs.Ways.{NoneIsLateAt}
use Rattle.wide_conjunctions.proofs.last.first_late.Given as goal

abbrev pub invariant-loop-q : goal.invariant-loop-q
invariant-loop-q l = (k : ℕ) → k < l.q → NoneIsLateAt l.computation.events l.cut l.starts k (get_or l.leaves k 0)
