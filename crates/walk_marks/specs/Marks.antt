-- The marks of a whole level: one bit for each cut of a run, in words of 64, and the words of run after run.
use Rattle.std.specs.Prelude.{◌≡◌, ℕ, zero, suc, ◌+◌, ◌-◌, ◌/◌, ◌%◌, ◌^◌, ◌<◌, ◌≤◌, ◌⊎◌, ◌↔◌, Bool, false, IsTrue, List, [], ◌∷◌, length, map, slice_index}
use Rattle.walk_keys.specs.Words.{has_bit, set_below}
use Rattle.def_format.specs.Limits.{event_limit}
use Rattle.walk_keys.specs.Keys.{count_base, key_of}
use Rattle.def_model.specs.Events.{Computation, event_count}
use Rattle.walk_keys.specs.Neighbors.{cut_at}
use Rattle.walk_runs.specs.WholeLevels.{Run, AvoidsAt, marked_from, rest_at}
use Rattle.walk_runs.specs.Levels.{WholeLevel, IsWholeLevel}
use Rattle.walk_marks.specs.RunPlaces.{run_at, key_of_run}

-- the index of the first word of each run, the words, and how many bits are set
pub record Marking : Type 0 where
  pub first : List ℕ
  pub words : List ℕ
  pub count : ℕ

-- the cut of a run with this count of the last process but one
abbrev pub cut_with : ℕ → Run → ℕ → List ℕ
cut_with k run x = cut_at run.prefix x (rest_at k run - x)

-- the last word of a run, counted from its first one
abbrev pub last_word : Run → ℕ
last_word run = (run.hi - run.lo) / 64

-- how many words the runs before this place take
abbrev pub start_of : List Run → ℕ → ℕ
start_of runs zero = 0
start_of [] (suc i) = 0
start_of (run ∷ runs) (suc i) = suc (last_word run) + start_of runs i

-- bit d, counted on through the words from this index on
abbrev pub bit_from : List ℕ → ℕ → ℕ → Bool
bit_from words start d = has_bit (slice_index words (start + d / 64)) (d % 64)

-- so many bits, from bit d on
abbrev pub bits_list : List ℕ → ℕ → ℕ → ℕ → List Bool
bits_list words start d zero = []
bits_list words start d (suc n) = bit_from words start d ∷ bits_list words start (suc d) n

-- those of each run, the first of which begins at this word
abbrev pub lists_of : List Run → List ℕ → ℕ → List (List Bool)
lists_of [] words start = []
lists_of (run ∷ runs) words start =
    bits_list words start 0 (suc (run.hi - run.lo)) ∷ lists_of runs words (start + suc (last_word run))

-- how many bits of the words are set
abbrev pub bits_in : List ℕ → ℕ
bits_in [] = 0
bits_in (word ∷ words) = set_below word 64 + bits_in words

-- The words are those of the runs, one run after the other, and no bit is set behind a run's last cut.
pub record IsShaped (runs : List Run) (marks : Marking) : Type 0 where
  pub some : (i : ℕ) → i < length runs → (run_at runs i).lo ≤ (run_at runs i).hi
  pub one_each : length marks.first ≡ length runs
  pub starts : (i : ℕ) → i < length runs → slice_index marks.first i ≡ start_of runs i
  pub ends : length marks.words ≡ start_of runs (length runs)
  pub beyond : (i d : ℕ) → i < length runs → (run_at runs i).hi - (run_at runs i).lo < d
      → d / 64 ≤ last_word (run_at runs i) → bit_from marks.words (start_of runs i) d ≡ false

-- the cut of this run with this count x of the last process but one is marked
abbrev pub IsMarkedAt : List Run → Marking → ℕ → ℕ → Type 0
IsMarkedAt runs marks i x =
    ((run_at runs i).lo ≤ x) × (x ≤ (run_at runs i).hi)
    × IsTrue (bit_from marks.words (start_of runs i) (x - (run_at runs i).lo))

-- Exactly the cuts that avoid are marked.
pub record IsMarking (c : Computation) (test : List ℕ → Bool) (level : WholeLevel) (marks : Marking) : Type 0 where
  pub shape : IsShaped level.runs marks
  pub just : (i x : ℕ) → i < length level.runs
      → IsMarkedAt level.runs marks i x ↔ AvoidsAt c test level.number (run_at level.runs i).prefix x
  pub counted : marks.count ≡ bits_in marks.words

-- the numbers of the runs ascend
abbrev pub KeysAscend : List Run → Type 0
KeysAscend runs = (i j : ℕ) → i < j → j < length runs → key_of_run (run_at runs i) < key_of_run (run_at runs j)

-- the run with this number has a marked cut with this x
abbrev pub HasMark : List Run → Marking → ℕ → ℕ → Type 0
HasMark runs marks key x =
    (i : ℕ) × (i < length runs) × (key_of_run (run_at runs i) ≡ key) × IsMarkedAt runs marks i x

-- of the same prefix: an event of one of the last two processes is undone
abbrev pub HasOwnMark : List Run → Marking → ℕ → ℕ → Type 0
HasOwnMark runs marks key x = ((0 < x) × HasMark runs marks key (x - 1)) ⊎ HasMark runs marks key x

-- an event of one of the first processes of the prefix is undone
abbrev pub HasOtherMark : List Run → Marking → ℕ → List ℕ → ℕ → ℕ → Type 0
HasOtherMark runs marks key prefix below x =
    (p : ℕ) × (p < below) × (0 < slice_index prefix p)
    × HasMark runs marks (key - count_base ^ (length prefix + 1 - p)) x

-- What is known of the level before: its marks are those of its cuts that avoid.
pub record IsBefore (c : Computation) (test : List ℕ
    → Bool) (level before : WholeLevel) (marks : Marking) : Type 0 where
  pub level_before : IsWholeLevel c before
  pub next : level.number ≡ before.number + 1
  pub marking : IsMarking c test before marks

-- The words from this index on are those of the run: each bit says whether its cut avoids, and no bit is set behind the
-- last one.
pub record HasWords (c : Computation) (test : List ℕ
    → Bool) (k : ℕ) (run : Run) (words : List ℕ) (start : ℕ) : Type 0 where
  pub just : (d : ℕ) → d ≤ run.hi - run.lo → IsTrue (bit_from words start d) ↔ AvoidsAt c test k run.prefix (run.lo + d)
  pub beyond : (d : ℕ) → run.hi - run.lo < d → d / 64 ≤ last_word run → bit_from words start d ≡ false

-- The marks are those of the level, for some test on a computation that is within the limits.
pub record AreMarksOf (level : WholeLevel) (marks : Marking) : Type 0 where
  pub c : Computation
  pub test : List ℕ → Bool
  pub short : (p : ℕ) → event_count c p ≤ event_limit
  pub whole : IsWholeLevel c level
  pub marking : IsMarking c test level marks

-- the numbers of the marked cuts of a run
abbrev pub marked_keys : ℕ → Run → List Bool → List ℕ
marked_keys k run bits = map key_of (marked_from run.prefix (rest_at k run) run.lo bits)
