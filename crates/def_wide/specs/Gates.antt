-- Gates: each observation passes through the cut right before an event, and through the one right after it.
use Rattle.std.specs.Prelude.{◌≡◌, ℕ, ◌≤◌, ◌⊎◌, Bool, true, false, cond, not, List, length, sum}
use Rattle.def_model.specs.Cuts.{FitsProcesses, Includes, total}
use Rattle.def_model.specs.Events.{Computation, IsEvent, Place}
use Rattle.def_model.specs.Order.{HappenedBefore}
use Rattle.def_model.specs.Predicates.{Predicate, Always, Never, Compare, Not, And, Or, Recorded}
use Rattle.def_wide.specs.DeadEnds.{EndsBack}
use Rattle.def_wide.specs.Sums.{IsExcludedAs, NamesNoOther}
use Rattle.def_wide.specs.Terms.{opposite}

-- ---- around an event

-- Counts around an event include all that happened before it, and nothing that it happened before. They need not be
-- consistent.
pub record IsAround (c : Computation) (e : Place) (counts : List ℕ) : Type 0 where
  pub fits : FitsProcesses c counts
  pub past : (f : Place) → HappenedBefore c f e → Includes counts f
  pub none_after : (f : Place) → HappenedBefore c e f → ¬ Includes counts f

-- right before the event, and right after it
abbrev pub IsRightBefore : Computation → Place → List ℕ → Type 0
IsRightBefore c e counts = IsAround c e counts × (¬ Includes counts e)

abbrev pub IsRightAfter : Computation → Place → List ℕ → Type 0
IsRightAfter c e counts = IsAround c e counts × Includes counts e

-- ---- what comparisons tell, each by itself

-- The predicate has this value at all counts of a set, which its comparisons tell, each by itself: a comparison holds
-- if its opposite is excluded there, and doesn't hold if it is excluded itself.
abbrev pub IsSurely : Bool → (List ℕ → Type 0) → Recorded → Predicate → Type 0
IsSurely value InSet r Always = value ≡ true
IsSurely value InSet r Never = value ≡ false
IsSurely value InSet r (Compare left comparison right) =
    IsExcludedAs (cond value (opposite comparison) comparison) InSet r
    (record { left = left; comparison = comparison; right = right })
IsSurely value InSet r (Not inner) = IsSurely (not value) InSet r inner
IsSurely true InSet r (And left right) = IsSurely true InSet r left × IsSurely true InSet r right
IsSurely false InSet r (And left right) = IsSurely false InSet r left ⊎ IsSurely false InSet r right
IsSurely true InSet r (Or left right) = IsSurely true InSet r left ⊎ IsSurely true InSet r right
IsSurely false InSet r (Or left right) = IsSurely false InSet r left × IsSurely false InSet r right

-- ---- gates

-- the greatest number of events that counts of a set have
pub record IsMostOf (InSet : List ℕ → Type 0) (most : ℕ) : Type 0 where
  pub counts : List ℕ
  pub inside : InSet counts
  pub reached : sum counts ≡ most
  pub none_more : (other : List ℕ) → InSet other → sum other ≤ most

-- The predicate surely holds right before an event, or right after it, and the level is that of the greatest counts
-- there.
pub data IsGate (r : Recorded) (predicate : Predicate) (level : ℕ) : Type 0 where
  before : (e : Place) → IsEvent r.events e → IsSurely true (IsRightBefore r.events e) r predicate
      → IsMostOf (IsRightBefore r.events e) level → IsGate r predicate level
  after : (e : Place) → IsEvent r.events e → IsSurely true (IsRightAfter r.events e) r predicate
      → IsMostOf (IsRightAfter r.events e) level → IsGate r predicate level

-- the least level of a gate of a predicate that names no process that isn't there
pub record IsLeastGate (r : Recorded) (predicate : Predicate) (level : ℕ) : Type 0 where
  pub there : NamesNoOther (length r.events) predicate
  pub gate : IsGate r predicate level
  pub least : (other : ℕ) → IsGate r predicate other → level ≤ other

-- ---- yes where the levels are too wide

-- The level that is printed where every observation passes through a satisfying cut, and the levels under a width leave
-- that unknown: that of the least gate, or without a gate that of all events, if the search back ends.
pub data IsLateLevel (r : Recorded) (predicate : Predicate) (w level : ℕ) : Type 0 where
  of_gate : IsLeastGate r predicate level → IsLateLevel r predicate w level
  of_end : ((other : ℕ) → ¬ IsLeastGate r predicate other) → EndsBack r predicate w → level ≡ total r.events
      → IsLateLevel r predicate w level
