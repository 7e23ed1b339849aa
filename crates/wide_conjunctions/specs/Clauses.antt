-- The cuts in which no process has come to a good count, and what they decide of a disjunction. `good p n` says whether
-- count n of process p, from 0, is good, and `test` whether a cut satisfies.
use Rattle.std.specs.Prelude.{◌≡◌, ℕ, ◌+◌, ◌<◌, ◌≤◌, ◌↔◌, Bool, true, false, List, length, sum, slice_index}
use Rattle.def_model.specs.Events.{Computation}
use Rattle.def_model.specs.Order.{HasNoCycle}
use Rattle.def_model.specs.Cuts.{IsConsistent, IsOfLevel, total}
use Rattle.def_model.specs.Lattice.{IsWithin}
use Rattle.def_model.specs.Observations.{Definitely, IsAvoiding, Possibly}
use Rattle.def_model.specs.Answers.{IsLeastFree}

-- no process has come to a good count: none of its counts so far is good
abbrev pub IsBeforeGood : (ℕ → ℕ → Bool) → List ℕ → Type 0
IsBeforeGood good cut = (p n : ℕ) → p < length cut → n ≤ slice_index cut p → good p n ≡ false

-- the greatest consistent cut in which none has: each other one is within it
pub record IsMostBefore (c : Computation) (good : ℕ → ℕ → Bool) (cut : List ℕ) : Type 0 where
  pub consistent : IsConsistent c cut
  pub before : IsBeforeGood good cut
  pub most : (other : List ℕ) → IsConsistent c other → IsBeforeGood good other → IsWithin other cut

-- some process is at a good count before its first event
abbrev pub IsGoodAtFirst : Computation → (ℕ → ℕ → Bool) → Type 0
IsGoodAtFirst c good = (p : ℕ) × (p < length c) × (good p 0 ≡ true)

-- a consistent cut satisfies exactly if some process is at a good count
abbrev pub IsClause : Computation → (List ℕ → Bool) → (ℕ → ℕ → Bool) → Type 0
IsClause c test good =
    (cut : List ℕ) → IsConsistent c cut
    → (test cut ≡ true) ↔ ((p : ℕ) × (p < length cut) × (good p (slice_index cut p) ≡ true))

-- A cut avoids exactly if it is consistent, and no process has come to a good count in it.
abbrev pub AvoidsBeforeGood : Type 0
AvoidsBeforeGood =
    (c : Computation) → HasNoCycle c → (test : List ℕ → Bool) (good : ℕ → ℕ → Bool) → IsClause c test good → (k : ℕ)
    (cut : List ℕ) → IsAvoiding c test k cut ↔ (IsOfLevel c k cut × IsBeforeGood good cut)

-- The level after the greatest such cut is the least that has no avoiding cut.
abbrev pub FreeAfterMost : Type 0
FreeAfterMost =
    (c : Computation) → HasNoCycle c → (test : List ℕ → Bool) (good : ℕ → ℕ → Bool) → IsClause c test good
    → (cut : List ℕ) → IsMostBefore c good cut → IsLeastFree c test (sum cut + 1)
    × (sum cut < total c → Definitely c test)

-- If a process is at a good count at first, that level is level 0.
abbrev pub FreeAtFirst : Type 0
FreeAtFirst =
    (c : Computation) (test : List ℕ → Bool) (good : ℕ → ℕ → Bool) → IsClause c test good → IsGoodAtFirst c good
    → IsLeastFree c test 0 × Definitely c test

-- If the greatest such cut has all events, no cut satisfies.
abbrev pub NoneIfFull : Type 0
NoneIfFull =
    (c : Computation) (test : List ℕ → Bool) (good : ℕ → ℕ → Bool) → IsClause c test good → (cut : List ℕ)
    → IsMostBefore c good cut → total c ≤ sum cut → ¬ Possibly c test

-- Of each test that holds exactly at the good counts every observation passes through a satisfying cut, and this is the
-- least level that has no avoiding cut.
abbrev pub IsFreeLevelOf : Computation → (ℕ → ℕ → Bool) → ℕ → Type 0
IsFreeLevelOf c good level =
    (test : List ℕ → Bool) → IsClause c test good → IsLeastFree c test level × Definitely c test

-- no cut satisfies such a test
abbrev pub IsNever : Computation → (ℕ → ℕ → Bool) → Type 0
IsNever c good = (test : List ℕ → Bool) → IsClause c test good → ¬ Possibly c test
