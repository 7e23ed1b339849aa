-- What the loop keeps: the words so far are those of the run's first cuts.
use Rattle.std.proofs.Common.{◌≡◌, ◌+◌, ◌-◌, ◌*◌, ◌<◌, ◌≤◌, ◌↔◌, ℕ, IsTrue, false, length, slice_index}
use Rattle.walk_marks.specs.Marks.{bit_from}
use Rattle.walk_marks.specs.RunPlaces.{run_at}
use Rattle.walk_runs.specs.WholeLevels.{AvoidsAt}
use Rattle.walk_marks.proofs.mark.push_run.Given as goal

abbrev pub invariant-loop-b : goal.invariant-loop-b
invariant-loop-b g l = record {
  more : length l.all.items ≡ length l.fn.all.items + l.b;
  others : (k : ℕ) → k < length l.fn.all.items → slice_index l.all.items k ≡ slice_index l.fn.all.items k;
  just : (d : ℕ) → d < 64 * l.b → d ≤ l.hi - l.lo → IsTrue (bit_from l.all.items (length l.fn.all.items) d)
      ↔ AvoidsAt (g.T.RunTest.events l.test) (g.T.RunTest.test l.test) l.level.number
      (run_at l.level.runs l.i).prefix (l.lo + d);
  beyond : (d : ℕ) → d < 64 * l.b → l.hi - l.lo < d → bit_from l.all.items (length l.fn.all.items) d ≡ false;
}
