-- Where the words of a level's marks begin, and what one of them says.
use Rattle.std.specs.Prelude.{◌≡◌, ℕ, ◌+◌, ◌*◌, ◌<◌, ◌≤◌, ◌↔◌, Bool, false, true, IsTrue, List, MatchOption, Option, length, slice_index_or}
use Rattle.walk_keys.specs.Words.{has_bit}
use Rattle.def_model.specs.Events.{Computation}
use Rattle.walk_runs.specs.WholeLevels.{Run, AvoidsAt}
use Rattle.walk_runs.specs.Levels.{WholeLevel}
use Rattle.walk_marks.specs.Marks.{cut_with, last_word, start_of}
use Rattle.walk_marks.specs.RunPlaces.{run_at}
use Rattle.walk_marks.specs.declared.spots.Spot.{Spot}

-- what stands behind the last spot
abbrev pub no_spot : Spot
no_spot = record { run = 0; x = 0 }

abbrev pub spot_at : List Spot → ℕ → Spot
spot_at spots j = slice_index_or spots j no_spot

-- there is such a cut: the run, and the count of the last process but one
abbrev pub IsSpot : List Run → Spot → Type 0
IsSpot runs spot =
    (spot.run < length runs) × ((run_at runs spot.run).lo ≤ spot.x) × (spot.x ≤ (run_at runs spot.run).hi)

-- those of the words of this run, which begin at this index
abbrev pub HasSpots : List Run → ℕ → List Spot → ℕ → Type 0
HasSpots runs i spots start = (q : ℕ) → q ≤ last_word (run_at runs i)
    → spot_at spots (start + q) ≡ record { run = i; x = (run_at runs i).lo + 64 * q }

-- A spot for each word of the marks of these runs, in their order, and the index of the first one of each run.
pub record AreSpots (runs : List Run) (first : List ℕ) (spots : List Spot) : Type 0 where
  pub one_each : length first ≡ length runs
  pub starts : (i : ℕ) → i < length runs → slice_index_or first i 0 ≡ start_of runs i
  pub ends : length spots ≡ start_of runs (length runs)
  pub spots_of : (i : ℕ) → i < length runs → HasSpots runs i spots (start_of runs i)
  pub each : (j : ℕ) → j < length spots → IsSpot runs (spot_at spots j)

-- The word says which of the 64 cuts of a run from this count on avoid, as far as the run goes.
pub record IsWordAt (c : Computation) (test : List ℕ → Bool) (k : ℕ) (run : Run) (x word : ℕ) : Type 0 where
  pub just : (j : ℕ) → j < 64 → x + j ≤ run.hi → IsTrue (has_bit word j) ↔ AvoidsAt c test k run.prefix (x + j)
  pub beyond : (j : ℕ) → run.hi < x + j → has_bit word j ≡ false

-- the word that begins at this spot
abbrev pub IsWordOf : Computation → (List ℕ → Bool) → WholeLevel → Spot → ℕ → Type 0
IsWordOf c test level spot word = IsWordAt c test level.number (run_at level.runs spot.run) spot.x word

-- the least count of the last process but one in this run whose cut satisfies, if there is one
abbrev pub IsHitIn : (List ℕ → Bool) → ℕ → Run → Option ℕ → Type 0
IsHitIn test k run found =
    MatchOption found ((u : ℕ) → run.lo ≤ u → u ≤ run.hi → test (cut_with k run u) ≡ false)
    (λ x. (run.lo ≤ x) × (x ≤ run.hi) × (test (cut_with k run x) ≡ true)
    × ((u : ℕ) → run.lo ≤ u → u < x → test (cut_with k run u) ≡ false))
