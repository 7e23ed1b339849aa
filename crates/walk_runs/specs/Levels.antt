-- A whole level, and how it is kept.
use Rattle.std.specs.Prelude.{◌≡◌, ℕ, ◌+◌, ◌-◌, ◌/◌, ◌^◌, ◌<◌, ◌≤◌, List, Contains, length, map, min, slice_index}
use Rattle.walk_keys.specs.Keys.{Ascending, count_base, digits}
use Rattle.def_model.specs.Events.{Computation}
use Rattle.def_model.specs.Cuts.{IsOfLevel}
use Rattle.walk_runs.specs.Births.{IsCandidate, IsUndoable}
use Rattle.walk_runs.specs.Kept.{KeyedBirth, KeyedRun, cuts_of}
use Rattle.walk_runs.specs.KeptRuns.{IsKept, run_view}
use Rattle.walk_runs.specs.WholeLevels.{IsWhole, Run, count_of_runs}

-- The number of a level and its runs. Beside them stand the cuts with which the prefixes of the next level are born,
-- and the same as they are kept, each with the process whose event made it.
pub record WholeLevel : Type 0 where
  pub processes : ℕ
  pub number : ℕ
  pub runs : List Run
  pub born : List (List ℕ)
  pub births : List KeyedBirth

-- The level has all cuts of its number of events, and the births of the next one: cuts of that, among them each
-- candidate. In each the event that made it can be undone.
pub record IsWholeLevel (c : Computation) (level : WholeLevel) : Type 0 where
  pub processes : level.processes ≡ length c
  pub two : 2 ≤ length c
  pub whole : IsWhole c level.number level.runs
  pub born : (cut : List ℕ) → Contains level.born cut → IsOfLevel c (level.number + 1) cut
  pub all : (cut : List ℕ) → IsCandidate c level.number cut → Contains level.born cut
  pub undoable : (birth : KeyedBirth) → Contains level.births birth
      → IsUndoable c (digits level.processes birth.cut) birth.by

-- the runs that are kept
abbrev pub runs_view : ℕ → List KeyedRun → List Run
runs_view n runs = map (run_view n) runs

abbrev pub whole_view : ℕ → ℕ → List KeyedRun → List KeyedBirth → WholeLevel
whole_view processes number runs births =
    record {
      processes = processes;
      number = number;
      runs = runs_view (processes - 2) runs;
      born = map (digits processes) (cuts_of births);
      births = births;
    }

-- the keys of the prefixes
abbrev pub keys_of : List KeyedRun → List ℕ
keys_of runs = map (λ (run : KeyedRun). run.key) runs

abbrev pub prefix_key : ℕ → ℕ
prefix_key cut = cut / count_base / count_base

-- as many cuts as the runs have, or the greatest number of 64 bits if they are more
abbrev pub cut_count : List Run → ℕ
cut_count runs = min (count_of_runs runs) 18446744073709551615

-- births in the order of their cuts
abbrev pub AreInOrder : List ℕ → Type 0
AreInOrder born = (i j : ℕ) → i ≤ j → j < length born → slice_index born i ≤ slice_index born j

-- how a level is kept: ascending keys, and its births, of two processes or more, all of which a key has room for
pub record IsKeptLevel (room processes number : ℕ) (runs : List KeyedRun) (born : List ℕ) : Type 0 where
  pub few : processes ≤ room
  pub two : 2 ≤ processes
  pub keys : Ascending (keys_of runs)
  pub kept : (run : KeyedRun) → Contains runs run → IsKept (processes - 2) number run
  pub some : (run : KeyedRun) → Contains runs run → run.lo ≤ run.hi
  pub below : (cut : ℕ) → Contains born cut → cut < count_base ^ processes
