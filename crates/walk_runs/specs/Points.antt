-- Cuts by the key of their prefix, and the cuts that are added to a list of births.
use Rattle.std.specs.Prelude.{◌≡◌, ◌⊎◌, ℕ, ◌<◌, Bool, IsTrue, List, Contains, Option, Some, None, slice_index}
use Rattle.walk_keys.specs.Keys.{digits, key_of}
use Rattle.def_model.specs.Events.{Computation, place}
use Rattle.def_model.specs.Messages.{IsMessage}
use Rattle.def_model.specs.Cuts.{IsConsistent, one_more}
use Rattle.walk_keys.specs.Neighbors.{cut_at}
use Rattle.walk_runs.specs.Births.{IsMadeLater, IsUndoable, next_of}
use Rattle.walk_runs.specs.Kept.{KeyedBirth, KeyedCut}

-- the cut, where the prefix has n counts
abbrev pub point_cut : ℕ → KeyedCut → List ℕ
point_cut n point = cut_at (digits n point.key) point.x point.y

-- the next event of process p may be added; or receives what the last event of a process in the cut sends
abbrev pub IsWanted : Computation → List ℕ → Option ℕ → ℕ → Type 0
IsWanted c cut None p = IsConsistent c (one_more cut p)
IsWanted c cut (Some q) p = IsMessage c (place q (slice_index cut q)) (next_of cut p)

-- the birth of this cut by process p
abbrev pub birth_of : List ℕ → ℕ → KeyedBirth
birth_of cut p = record { cut = key_of cut; by = p }

-- it is in the list, or left out, since a process after p makes the cut too
abbrev pub IsFound : Computation → List KeyedBirth → List ℕ → ℕ → Type 0
IsFound c births cut p = Contains births (birth_of cut p) ⊎ IsMadeLater c cut p

-- The new list has what the old one has, and beside that only cuts that one more event of one of the first n processes
-- makes of this one: all that are wanted and aren't left out.
pub record GrowsBy (c : Computation) (cut : List ℕ) (by : Option ℕ) (n : ℕ) (old new : List KeyedBirth) : Type 0 where
  pub kept : (z : KeyedBirth) → Contains old z → Contains new z
  pub just : (z : KeyedBirth) → Contains new z → Contains old z
      ⊎ ((p : ℕ) × (p < n) × IsConsistent c (one_more cut p) × IsUndoable c (one_more cut p) p
      × (z ≡ birth_of (one_more cut p) p))
  pub all : (p : ℕ) → p < n → IsWanted c cut by p → IsFound c new (one_more cut p) p

-- the same for what the last event of process q sends, where it is asked for
pub record GrowsIf (c : Computation) (cut : List ℕ) (wanted : Bool) (q n : ℕ) (old new : List KeyedBirth) : Type 0 where
  pub kept : (z : KeyedBirth) → Contains old z → Contains new z
  pub just : (z : KeyedBirth) → Contains new z → Contains old z
      ⊎ ((p : ℕ) × (p < n) × IsConsistent c (one_more cut p) × IsUndoable c (one_more cut p) p
      × (z ≡ birth_of (one_more cut p) p))
  pub all : IsTrue wanted → (p : ℕ) → p < n → IsWanted c cut (Some q) p → IsFound c new (one_more cut p) p
