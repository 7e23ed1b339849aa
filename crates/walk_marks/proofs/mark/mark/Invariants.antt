-- The words so far are those of the first runs.
use Rattle.std.proofs.Common.{◌≡◌, ◌<◌, ℕ, length, slice_index}
use Rattle.def_format.specs.Limits.{process_limit}
use Rattle.walk_marks.specs.Marks.{HasWords, start_of}
use Rattle.walk_marks.specs.RunPlaces.{run_at}
use Rattle.walk_marks.proofs.mark.mark.Given as goal

abbrev pub invariant-loop-i : goal.invariant-loop-i
invariant-loop-i g l = record {
  one_each : length l.first.items ≡ l.i;
  starts : (k : ℕ) → k < l.i → slice_index l.first.items k ≡ start_of l.level.runs k;
  ends : length l.all.items ≡ start_of l.level.runs l.i;
  slots : length l.places ≡ process_limit;
  words : (k : ℕ) → k < l.i → HasWords (g.T.RunTest.events l.test) (g.T.RunTest.test l.test) l.level.number
      (run_at l.level.runs k) l.all.items (start_of l.level.runs k);
}
