-- Which receipts of a run are enough for a predicate to be false at each consistent cut.
use Rattle.std.specs.Prelude.{◌≡◌, ◌≢◌, ℕ, false, List, Contains, length, map}
use Rattle.def_model.specs.Cuts.{FitsProcesses, Includes}
use Rattle.def_model.specs.Events.{Event, Computation, Place, events_of}
use Rattle.def_model.specs.Messages.{IsMessage}
use Rattle.def_model.specs.Observations.{Possibly}
use Rattle.def_model.specs.Order.{HappenedBefore}
use Rattle.def_model.specs.Predicates.{Predicate, Recorded, test_of}

-- with each of these receipts that the counts include they include its send
abbrev pub HaveSends : Computation → (IsKept : Place → Type 0) → List ℕ → Type 0
HaveSends c IsKept counts =
    (send receipt : Place) → IsKept receipt → IsMessage c send receipt → Includes counts receipt
    → Includes counts send

-- These receipts are enough: no counts within the run that have their sends satisfy the predicate. Of other messages
-- nothing is asked, so some of these counts may include a receipt without its send.
abbrev pub IsEnough : Recorded → Predicate → (IsKept : Place → Type 0) → Type 0
IsEnough r predicate IsKept =
    (counts : List ℕ) → FitsProcesses r.events counts → HaveSends r.events IsKept counts
    → test_of r predicate counts ≡ false

-- without this one the others of the list aren't enough
abbrev pub IsNeeded : Recorded → Predicate → List Place → Place → Type 0
IsNeeded r predicate receipts e = ¬ IsEnough r predicate (λ other. Contains receipts other × (other ≢ e))

-- ---- what that means for other runs

-- the same processes, each with as many events that set the same
pub record HasSettingsOf (c other : Computation) : Type 0 where
  pub one_each : length other ≡ length c
  pub settings : (p : ℕ) → map (λ (event : Event). event.sets) (events_of other p)
      ≡ map (λ (event : Event). event.sets) (events_of c p)

-- in the other run the send of each of these receipts happened before it
abbrev pub HasOrderingsOf : Computation → (IsKept : Place → Type 0) → Computation → Type 0
HasOrderingsOf c IsKept other =
    (send receipt : Place) → IsKept receipt → IsMessage c send receipt → HappenedBefore other send receipt

-- If these receipts are enough, no run with the same events satisfies the predicate at a consistent cut, if the send of
-- each of them happened before it: whatever else is ordered, or isn't.
abbrev pub EnoughForAll : Type 0
EnoughForAll =
    (r other : Recorded) (predicate : Predicate) (receipts : List Place) → IsEnough r predicate (Contains receipts)
    → other.initial ≡ r.initial → HasSettingsOf r.events other.events
    → HasOrderingsOf r.events (Contains receipts) other.events → ¬ Possibly other.events (test_of other predicate)
