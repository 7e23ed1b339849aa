-- What the loop of `first_early` keeps.
use Rattle.std.proofs.Common.{ℕ, ◌<◌, get_or}
use Rattle.wide_conjunctions.specs.Intervals.{IsLeftInTime}
use Rattle.wide_conjunctions.proofs.box_least.first_early.Given as goal

abbrev pub invariant-loop-q : goal.invariant-loop-q
invariant-loop-q l = (k : ℕ) → k < l.q → IsLeftInTime l.computation.events l.starts k (get_or l.leaves k 0)
