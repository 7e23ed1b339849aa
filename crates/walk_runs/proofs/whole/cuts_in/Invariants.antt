-- What the loops of `cuts_in` keep.
use Rattle.std.proofs.Common.{◌≡◌, ℕ, take}
use Rattle.walk_runs.specs.Levels.{cut_count, runs_view}
use Rattle.walk_runs.proofs.whole.cuts_in.Given as goal

abbrev pub invariant-loop-i : goal.invariant-loop-i
invariant-loop-i g l = (n : ℕ) → l.cuts ≡ cut_count (runs_view n (take l.i l.runs))
