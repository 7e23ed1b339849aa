-- The words so far are those of the first runs.
use Rattle.std.proofs.Common.{◌≡◌, ◌<◌, ℕ, length, slice_index}
use Rattle.def_format.specs.Limits.{process_limit}
use Rattle.walk_marks.specs.RunPlaces.{run_at}
use Rattle.walk_marks.specs.SkippedRuns.{IsWordOf}
use Rattle.walk_marks.proofs.skipped.SkippedRuns.first.Given as goal

abbrev pub invariant-loop-i : goal.invariant-loop-i
invariant-loop-i g l = record {
  row : length l.counts ≡ process_limit;
  one_each : length l.words.items ≡ l.i;
  each : (k : ℕ) → k < l.i → IsWordOf l.tests (run_at l.level.runs k).prefix (slice_index l.words.items k);
}
