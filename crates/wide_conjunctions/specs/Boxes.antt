-- Boxes, and what they decide of a conjunction. Source: Garg and Waldecker, Detection of Strong Unstable Predicates in
-- Distributed Programs, 1996. `good p n` says whether count n of process p, from 0, is good, and `test` whether a cut
-- satisfies. A maximal range of good counts of a process is an interval of it.
use Rattle.std.specs.Prelude.{◌≡◌, ℕ, ◌+◌, ◌<◌, ◌≤◌, ◌⊎◌, ◌↔◌, Bool, true, false, ◌&&◌, nat_eq, nat_le, List, length, sum, slice_index}
use Rattle.def_model.specs.Events.{Computation}
use Rattle.def_model.specs.Order.{HasNoCycle}
use Rattle.def_model.specs.Cuts.{IsConsistent, IsOfLevel, full_cut, one_less}
use Rattle.def_model.specs.Lattice.{IsWithin}
use Rattle.def_model.specs.Observations.{Definitely, IsAvoiding}
use Rattle.def_model.specs.Answers.{IsLeastFree}
use Rattle.wide_conjunctions.specs.LeastCuts.{IsGood}

-- a consistent cut satisfies exactly if each process is at a good count
abbrev pub IsConjunction : Computation → (List ℕ → Bool) → (ℕ → ℕ → Bool) → Type 0
IsConjunction c test good = (cut : List ℕ) → IsConsistent c cut → (test cut ≡ true) ↔ IsGood good cut

-- each consistent cut with m events of process q has these counts within it
abbrev pub AreBefore : Computation → List ℕ → ℕ → ℕ → Type 0
AreBefore c counts q m = (cut : List ℕ) → IsConsistent c cut → m ≤ slice_index cut q → IsWithin counts cut

-- A box in a cut is a good count of each process, within the cut, such that no process has left the interval of its
-- count within the cut before each other process has come to its own.
pub record IsBox (c : Computation) (good : ℕ → ℕ → Bool) (cut box : List ℕ) : Type 0 where
  pub one_each : length box ≡ length c
  pub within : IsWithin box cut
  pub good_there : IsGood good box
  pub together : (q m : ℕ) → slice_index box q < m → m ≤ slice_index cut q → good q m ≡ false → AreBefore c box q m

abbrev pub HasBox : Computation → (ℕ → ℕ → Bool) → List ℕ → Type 0
HasBox c good cut = (box : List ℕ) × IsBox c good cut box

abbrev pub HasNoBox : Computation → (ℕ → ℕ → Bool) → List ℕ → Type 0
HasNoBox c good cut = (box : List ℕ) → ¬ IsBox c good cut box

-- to undo the last event of process p leaves a consistent cut without a box
abbrev pub LeavesNoBox : Computation → (ℕ → ℕ → Bool) → List ℕ → ℕ → Type 0
LeavesNoBox c good cut p =
    (0 < slice_index cut p) × IsConsistent c (one_less cut p) × HasNoBox c good (one_less cut p)

-- the least box in the full cut: it is within each other one
pub record IsLeastBox (c : Computation) (good : ℕ → ℕ → Bool) (box : List ℕ) : Type 0 where
  pub box_there : IsBox c good (full_cut c) box
  pub least : (other : List ℕ) → IsBox c good (full_cut c) other → IsWithin box other

-- the greatest consistent cut with fewer than n events of process p: each other one is within it
pub record IsMostWithout (c : Computation) (p n : ℕ) (cut : List ℕ) : Type 0 where
  pub consistent : IsConsistent c cut
  pub without : slice_index cut p < n
  pub most : (other : List ℕ) → IsConsistent c other → slice_index other p < n → IsWithin other cut

-- the counts of one process from one on, as good counts
abbrev pub counts_from : ℕ → ℕ → ℕ → ℕ → Bool
counts_from process number p n = nat_eq p process && nat_le number n

-- The level after the greatest cut that lacks one of these counts, or 0 if none can be lacked.
pub record IsLevelAfter (c : Computation) (counts : List ℕ) (level : ℕ) : Type 0 where
  pub each : (p : ℕ) → 0 < slice_index counts p
      → (cut : List ℕ) × IsMostWithout c p (slice_index counts p) cut × (sum cut < level)
  pub some : (level ≡ 0) ⊎ ((p : ℕ) × (0 < slice_index counts p)
      × ((cut : List ℕ) × IsMostWithout c p (slice_index counts p) cut × (level ≡ sum cut + 1)))

-- The level after a greatest cut is taken in, if count n of process p can be lacked.
pub record IsRaisedLevel (c : Computation) (p n old new : ℕ) : Type 0 where
  pub no_less : old ≤ new
  pub here : 0 < n → (cut : List ℕ) × IsMostWithout c p n cut × (sum cut < new)
  pub from_one : (new ≡ old) ⊎ ((0 < n) × ((cut : List ℕ) × IsMostWithout c p n cut × (new ≡ sum cut + 1)))

-- A cut avoids exactly if it is consistent, and there is no box in it.
abbrev pub AvoidsWithoutBox : Type 0
AvoidsWithoutBox =
    (c : Computation) → HasNoCycle c → (test : List ℕ → Bool) (good : ℕ → ℕ → Bool) → IsConjunction c test good
    → (k : ℕ) (cut : List ℕ) → IsAvoiding c test k cut ↔ (IsOfLevel c k cut × HasNoBox c good cut)

-- The level after the greatest cut that lacks a count of the least box is the least that has no avoiding cut.
abbrev pub FreeAfterBox : Type 0
FreeAfterBox =
    (c : Computation) → HasNoCycle c → (test : List ℕ → Bool) (good : ℕ → ℕ → Bool) → IsConjunction c test good
    → (box : List ℕ) → IsLeastBox c good box → (level : ℕ) → IsLevelAfter c box level
    → IsLeastFree c test level × Definitely c test

-- Where there is no box in the full cut, some observation has no satisfying cut.
abbrev pub NotWithoutBox : Type 0
NotWithoutBox =
    (c : Computation) → HasNoCycle c → (test : List ℕ → Bool) (good : ℕ → ℕ → Bool) → IsConjunction c test good
    → HasNoBox c good (full_cut c) → ¬ Definitely c test

-- Of each test that holds exactly where each process is at a good count, every observation passes through a satisfying
-- cut, and this is the least level that has no avoiding cut.
abbrev pub IsPassedAt : Computation → (ℕ → ℕ → Bool) → ℕ → Type 0
IsPassedAt c good level =
    (test : List ℕ → Bool) → IsConjunction c test good → IsLeastFree c test level × Definitely c test
