-- Which runs of a level are skipped: those of which it is known that none of their cuts passes a test.
use Rattle.std.specs.Prelude.{◌≡◌, ℕ, ◌<◌, Bool, false, IsTrue, List, length, slice_index}
use Rattle.walk_keys.specs.Words.{has_bit}
use Rattle.def_model.specs.Events.{Computation}
use Rattle.def_model.specs.Cuts.{FitsProcesses}
use Rattle.walk_keys.specs.Neighbors.{cut_at}
use Rattle.walk_runs.specs.WholeLevels.{Run}
use Rattle.walk_marks.specs.RunPlaces.{run_at}
use Rattle.walk_marks.specs.declared.skips.Skips.{Skips}

-- the run at this place is skipped: its word has the bit
abbrev pub IsSkipped : Skips → ℕ → Type 0
IsSkipped skips i = (i < length skips.words.now) × IsTrue (has_bit (slice_index skips.words.now i) skips.bit)

-- No cut passes the test that has the prefix of a run that is skipped. The bit is one of a word. That all are skipped
-- is said only if each run is.
pub record HaveNoHits (c : Computation) (test : List ℕ → Bool) (runs : List Run) (skips : Skips) : Type 0 where
  pub few : skips.bit < 64
  pub none : (i x y : ℕ) → i < length runs → IsSkipped skips i
      → FitsProcesses c (cut_at (run_at runs i).prefix x y) → test (cut_at (run_at runs i).prefix x y) ≡ false
  pub all : IsTrue skips.all → (i : ℕ) → i < length runs → IsSkipped skips i
