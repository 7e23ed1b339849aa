-- Tried cuts: some of the consistent cuts, few enough to look at each, where the levels are too wide and the predicate
-- isn't decided.
use Rattle.std.specs.Prelude.{◌≡◌, ℕ, ◌<◌, ◌⊎◌, Bool, true, List, slice_index, sum}
use Rattle.def_model.specs.Answers.{LexBelow}
use Rattle.def_model.specs.Cuts.{IsConsistent, full_cut, one_less}
use Rattle.def_model.specs.Events.{Computation, IsEvent, Place}
use Rattle.def_model.specs.Lattice.{IsWithin}
use Rattle.def_wide.specs.Gates.{IsRightAfter, IsRightBefore}

-- the least counts of a set, which are within all of them, or the greatest, within which all of them are
pub data IsEndOf (InSet : List ℕ → Type 0) (counts : List ℕ) : Type 0 where
  least : InSet counts → ((other : List ℕ) → InSet other → IsWithin counts other) → IsEndOf InSet counts
  greatest : InSet counts → ((other : List ℕ) → InSet other → IsWithin other counts) → IsEndOf InSet counts

-- to undo the last event of process p leaves a consistent cut
abbrev pub LeavesConsistent : Computation → List ℕ → ℕ → Type 0
LeavesConsistent c cut p = (0 < slice_index cut p) × IsConsistent c (one_less cut p)

-- The way back from the full cut to the empty one: each step undoes the event of the least process that leaves a
-- consistent cut.
pub data IsOnWayBack (c : Computation) : List ℕ → Type 0 where
  full : (cut : List ℕ) → cut ≡ full_cut c → IsOnWayBack c cut
  undone : (cut last : List ℕ) (p : ℕ) → cut ≡ one_less last p → LeavesConsistent c last p
      → ((q : ℕ) → q < p → ¬ LeavesConsistent c last q) → IsOnWayBack c last → IsOnWayBack c cut

-- A cut is tried if it is the least or the greatest right before an event, or right after it; or if it is on the way
-- back.
pub data IsTried (c : Computation) (cut : List ℕ) : Type 0 where
  before : (e : Place) → IsEvent c e → IsEndOf (IsRightBefore c e) cut → IsTried c cut
  after : (e : Place) → IsEvent c e → IsEndOf (IsRightAfter c e) cut → IsTried c cut
  back : IsOnWayBack c cut → IsTried c cut

-- The cut satisfies, and each other tried cut that does is of a higher level, or of its level and lexicographically
-- after it.
pub record IsFirstTried (c : Computation) (test : List ℕ → Bool) (cut : List ℕ) : Type 0 where
  pub tried : IsTried c cut
  pub consistent : IsConsistent c cut
  pub satisfies : test cut ≡ true
  pub first : (other : List ℕ) → IsTried c other → IsConsistent c other → test other ≡ true → ¬ (other ≡ cut)
      → (sum cut < sum other) ⊎ ((sum cut ≡ sum other) × LexBelow cut other)
