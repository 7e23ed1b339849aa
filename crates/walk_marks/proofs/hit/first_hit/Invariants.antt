-- None of the cuts of the runs so far satisfies.
use Rattle.std.proofs.Common.{◌≡◌, ◌<◌, ◌≤◌, ℕ, false}
use Rattle.walk_marks.specs.RunPlaces.{run_at}
use Rattle.walk_marks.specs.Marks.{cut_with}
use Rattle.walk_marks.proofs.hit.first_hit.Given as goal

abbrev pub invariant-loop-i : goal.invariant-loop-i
invariant-loop-i g l =
    (k u : ℕ) → k < l.i → (run_at l.level.runs k).lo ≤ u → u ≤ (run_at l.level.runs k).hi
    → g.T.RunTest.test l.test (cut_with l.level.number (run_at l.level.runs k) u) ≡ false
