-- Which predicates hold at no cut of a run: a word for each run of a level, a bit for each of the first predicates.
use Rattle.std.specs.Prelude.{◌≡◌, ℕ, ◌<◌, false, IsTrue, List, length, slice_index, slice_index_or}
use Rattle.walk_keys.specs.Words.{has_bit}
use Rattle.walk_marks.specs.RunPlaces.{run_at}
use Rattle.def_model.specs.Cuts.{FitsProcesses}
use Rattle.def_model.specs.Events.{Computation}
use Rattle.def_model.specs.Predicates.{test_of}
use Rattle.walk_keys.specs.Neighbors.{cut_at}
use Rattle.walk_runs.specs.Levels.{IsWholeLevel, WholeLevel}
use Rattle.walk_tables.specs.Views.{CompiledView}

-- how many predicates have a bit in a word: the first ones
abbrev pub bit_limit : ℕ
bit_limit = 16

-- the predicate holds at no cut with this prefix
abbrev pub HoldsNowhere : CompiledView → List ℕ → Type 0
HoldsNowhere test prefix =
    (x y : ℕ) → FitsProcesses test.recorded.events (cut_at prefix x y)
    → test_of test.recorded test.predicate (cut_at prefix x y) ≡ false

-- each predicate whose bit is set holds at no cut with this prefix
abbrev pub IsWordOf : List CompiledView → List ℕ → ℕ → Type 0
IsWordOf tests prefix word =
    (q : ℕ) (test : CompiledView) → q < length tests → IsTrue (has_bit word q)
    → HoldsNowhere (slice_index_or tests q test) prefix

-- the word is that of run i
pub record IsWordOfRun (tests : List CompiledView) (level : WholeLevel) (i word : ℕ) : Type 0 where
  pub is : IsWordOf tests (run_at level.runs i).prefix word

-- each bit that is set in the last number is set in all words
abbrev pub AreInAll : List ℕ → ℕ → Type 0
AreInAll words bits =
    (q i : ℕ) → IsTrue (has_bit bits q) → i < length words → IsTrue (has_bit (slice_index words i) q)

-- a word for each run
pub record AreSkipped (tests : List CompiledView) (level : WholeLevel) (words : List ℕ) : Type 0 where
  pub one_each : length words ≡ length level.runs
  pub each : (i : ℕ) → i < length level.runs → IsWordOf tests (run_at level.runs i).prefix (slice_index words i)

-- the level is one of some computation
pub record IsSomeLevel (level : WholeLevel) : Type 0 where
  pub c : Computation
  pub whole : IsWholeLevel c level
