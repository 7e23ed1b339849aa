-- None of the cuts so far satisfies.
use Rattle.std.proofs.Common.{◌≡◌, ◌+◌, ◌*◌, ◌<◌, ◌≤◌, ℕ, false}
use Rattle.walk_marks.specs.RunPlaces.{run_at}
use Rattle.walk_marks.specs.Marks.{cut_with}
use Rattle.walk_marks.proofs.hit.hit_in.Given as goal

abbrev pub invariant-loop-b : goal.invariant-loop-b
invariant-loop-b g l =
    (u : ℕ) → l.lo ≤ u → u < l.lo + 64 * l.b → u ≤ l.hi
    → g.T.RunTest.test l.test (cut_with l.level.number (run_at l.level.runs l.i) u) ≡ false
