-- Runs as they are kept, by the key of their prefix, and what is added to the runs and births of the next level.
use Rattle.std.specs.Prelude.{◌≡◌, ◌⊎◌, ℕ, ◌+◌, ◌-◌, ◌/◌, ◌^◌, ◌<◌, ◌≤◌, Bool, IsTrue, Some, List, [], ◌∷◌, ◌++◌, Contains, length, sum}
use Rattle.walk_keys.specs.Keys.{count_base, digits, key_of}
use Rattle.def_model.specs.Events.{Computation, place}
use Rattle.def_model.specs.Cuts.{IsConsistent, IsOfLevel, one_more}
use Rattle.walk_keys.specs.Neighbors.{cut_at}
use Rattle.walk_runs.specs.Births.{IsReceivedBelow, IsUndoable}
use Rattle.walk_runs.specs.Kept.{KeyedBirth, KeyedRun}
use Rattle.walk_runs.specs.Points.{IsFound, IsWanted, birth_of}
use Rattle.walk_runs.specs.WholeLevels.{Run, IsMovedTo, IsMadeAt}

-- the run, where the prefix has n counts
abbrev pub run_view : ℕ → KeyedRun → Run
run_view n run = record { prefix = digits n run.key; lo = run.lo; hi = run.hi }

-- how many events each of its cuts has
abbrev pub level_of : ℕ → KeyedRun → ℕ
level_of n run = sum (digits n run.key) + run.rest

-- the run is kept with its key, at level k, where the prefix has n counts
pub record IsKept (n k : ℕ) (run : KeyedRun) : Type 0 where
  pub below : run.key < count_base ^ n
  pub level : level_of n run ≡ k

-- The run has moved to the next level and isn't empty there. The two flags say at which ends births are searched for:
-- where an end has moved by a send that a process of the prefix receives.
pub record IsMoved (c : Computation) (old new : KeyedRun) (at_top at_low : Bool) : Type 0 where
  pub same : new.key ≡ old.key
  pub rest : new.rest ≡ old.rest + 1
  pub moved : IsMovedTo c (level_of (length c - 2) old) (run_view (length c - 2) old) (run_view (length c - 2) new)
  pub some : new.lo ≤ new.hi
  pub top : IsTrue moved.b → IsReceivedBelow c (length c - 2) (place (length c - 2) new.hi) → IsTrue at_top
  pub low : IsTrue moved.a → IsReceivedBelow c (length c - 2) (place (length c - 1) (new.rest - new.lo)) → IsTrue at_low

-- The new list has what the old one has, and beside that only cuts that one more event makes of a cut at an end of the
-- run: all that receive what the last event there sends, at the ends that are flagged.
pub record GrowsAtEnds (c : Computation) (run : KeyedRun) (at_top at_low : Bool) (old new : List KeyedBirth) : Type 0
  where
    pub kept : (z : KeyedBirth) → Contains old z → Contains new z
    pub just : (z : KeyedBirth) → Contains new z → Contains old z
        ⊎ ((p x : ℕ) × (p < length c - 2) × (x ≤ run.rest)
        × IsConsistent c (one_more (cut_at (digits (length c - 2) run.key) x (run.rest - x)) p)
        × IsUndoable c (one_more (cut_at (digits (length c - 2) run.key) x (run.rest - x)) p) p
        × (z ≡ birth_of (one_more (cut_at (digits (length c - 2) run.key) x (run.rest - x)) p) p))
    pub top : IsTrue at_top → (p : ℕ) → p < length c - 2
        → IsWanted c (cut_at (digits (length c - 2) run.key) run.hi (run.rest - run.hi)) (Some (length c - 2)) p
        → IsFound c new (one_more (cut_at (digits (length c - 2) run.key) run.hi (run.rest - run.hi)) p) p
    pub low : IsTrue at_low → (p : ℕ) → p < length c - 2
        → IsWanted c (cut_at (digits (length c - 2) run.key) run.lo (run.rest - run.lo)) (Some (length c - 1)) p
        → IsFound c new (one_more (cut_at (digits (length c - 2) run.key) run.lo (run.rest - run.lo)) p) p

-- the birth is a cut of level k, and the last event there of the process that made it can be undone
abbrev pub IsBirth : Computation → ℕ → KeyedBirth → Type 0
IsBirth c k birth = (cut : List ℕ) × IsOfLevel c k cut × (birth.cut ≡ key_of cut) × IsUndoable c cut birth.by

-- The new list has what the old one has, and beside that only births of the next level: all candidates that are made at
-- this run of level k and aren't left out.
pub record AddsBirths (c : Computation) (k : ℕ) (run : KeyedRun) (old new : List KeyedBirth) : Type 0 where
  pub kept : (z : KeyedBirth) → Contains old z → Contains new z
  pub just : (z : KeyedBirth) → Contains new z → Contains old z ⊎ IsBirth c (k + 1) z
  pub all : (p : ℕ) (cut : List ℕ) → p < length c - 2 → IsMadeAt c k (run_view (length c - 2) run) p cut
      → IsFound c new cut p

-- What is pushed where a run is moved: nothing, if it is empty one level on; or the run, and its births.
pub data IsPushed (c : Computation) (old : KeyedRun) (runs : List KeyedRun) (born : List KeyedBirth)
    (new_runs : List KeyedRun) (new_born : List KeyedBirth) : Type 0 where
  gone : ((new : Run) → IsMovedTo c (level_of (length c - 2) old) (run_view (length c - 2) old) new
      → ¬ (new.lo ≤ new.hi)) → new_runs ≡ runs → new_born ≡ born → IsPushed c old runs born new_runs new_born
  moved : (new : KeyedRun) (top low : Bool) → IsMoved c old new top low → new_runs ≡ runs ++ new ∷ []
      → AddsBirths c (level_of (length c - 2) old + 1) new born new_born
      → IsPushed c old runs born new_runs new_born

-- what is pushed where a prefix is born with the cut of this key
pub record IsBornRun (c : Computation) (cut : ℕ) (runs : List KeyedRun) (born : List KeyedBirth)
    (new_runs : List KeyedRun) (new_born : List KeyedBirth) : Type 0 where
  pub run : KeyedRun
  pub key : run.key ≡ cut / count_base / count_base
  pub single : run.lo ≡ run.hi
  pub is : cut_at (digits (length c - 2) run.key) run.lo (run.rest - run.lo) ≡ digits (length c) cut
  pub kept : IsKept (length c - 2) (sum (digits (length c) cut)) run
  pub pushed : new_runs ≡ runs ++ run ∷ []
  pub births : AddsBirths c (sum (digits (length c) cut)) run born new_born
