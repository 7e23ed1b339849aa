-- The levels of avoiding cuts that are kept, and how far the way back has come. `test` says whether a cut satisfies.
use Rattle.std.specs.Prelude.{◌≡◌, ℕ, ◌+◌, ◌-◌, ◌<◌, ◌≤◌, ◌↔◌, Bool, List, [], ◌++◌, length, sum, Contains, IsTrue, slice_index, slice_index_or}
use Rattle.def_model.specs.Answers.{IsListOf, IsUndoing}
use Rattle.def_model.specs.Cuts.{IsConsistent, full_cut, one_less}
use Rattle.def_model.specs.Events.{Computation}
use Rattle.def_model.specs.Observations.{IsAvoiding}
use Rattle.pd_level.specs.Levels.{Levelled}
use Rattle.walk_keys.specs.Words.{has_bit}

-- the level has just the avoiding cuts of its number of events
abbrev pub IsAvoidingLevel : Computation → (List ℕ → Bool) → Levelled → Type 0
IsAvoidingLevel c test level = IsListOf (IsAvoiding c test level.number) level.cuts

-- each of the levels has
abbrev pub AreAvoidingLevels : Computation → (List ℕ → Bool) → List Levelled → Type 0
AreAvoidingLevels c test levels =
    (i : ℕ) (d : Levelled) → i < length levels → IsAvoidingLevel c test (slice_index_or levels i d)

-- the number of the last level, if there is one
abbrev pub last_number : List Levelled → ℕ
last_number levels = (slice_index_or levels (length levels - 1) (record { number = 0; cuts = [] })).number

-- the upper level is above the lower one, by gap at most
abbrev pub IsWithinGap : ℕ → Levelled → Levelled → Type 0
IsWithinGap gap lower upper = (lower.number < upper.number) × (upper.number ≤ lower.number + gap)

-- Levels of avoiding cuts are kept from the level of the split up to the top, none more than the gap above the one
-- before it. There may be none where the top is no higher than the split.
pub record AreKept (c : Computation) (test : List ℕ → Bool) (split gap top : ℕ) (levels : List Levelled) : Type 0 where
  pub lists : AreAvoidingLevels c test levels
  pub begins : (d : Levelled) → 0 < length levels → (slice_index_or levels 0 d).number ≡ split
  pub steps : (i : ℕ) (d : Levelled) → i + 1 < length levels
      → IsWithinGap gap (slice_index_or levels i d) (slice_index_or levels (i + 1) d)
  pub ends : 0 < length levels → (last_number levels ≤ top) × (top ≤ last_number levels + gap)
  pub none : length levels ≡ 0 → top ≤ split

-- Such levels come after the first ones, each one event above the one before it.
abbrev pub AreInTurn : ℕ → ℕ → List Levelled → Type 0
AreInTurn first number levels =
    (i : ℕ) (d : Levelled) → first ≤ i + 1 → i < length levels → (slice_index_or levels i d).number + first
    ≡ number + (i + 1)

-- The processes lead from the full cut back to this avoiding cut: each step undoes the event of the least process that
-- leaves an avoiding cut.
pub record IsReached (c : Computation) (test : List ℕ → Bool) (path : List ℕ) (cut : List ℕ) : Type 0 where
  pub avoiding : IsAvoiding c test (sum cut) cut
  pub onward : (rest : List ℕ) → IsUndoing c test cut rest → IsUndoing c test (full_cut c) (path ++ rest)

-- to undo the last event of process p leaves one of these cuts
abbrev pub LeavesOneOf : List (List ℕ) → List ℕ → ℕ → Type 0
LeavesOneOf cuts cut p = (0 < slice_index cut p) × Contains cuts (one_less cut p)

-- to undo the last event of process p leaves a consistent cut
abbrev pub LeavesConsistent : Computation → List ℕ → ℕ → Type 0
LeavesConsistent c cut p = (0 < slice_index cut p) × IsConsistent c (one_less cut p)

-- the bits of the word are the processes of which the last event can be undone
abbrev pub AreFree : Computation → List ℕ → ℕ → Type 0
AreFree c cut free = (p : ℕ) → IsTrue (has_bit free p) ↔ LeavesConsistent c cut p
