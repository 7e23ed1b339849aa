-- What is found of why no consistent cut satisfies a predicate.
use Rattle.std.specs.Prelude.{◌⊎◌, All, AllPairs, Contains, IsTrue, Bool, List, ℕ}
use Rattle.def_model.specs.Events.{Computation, Place, IsBefore}
use Rattle.def_model.specs.Messages.{Receives}
use Rattle.def_model.specs.Observations.{Possibly}
use Rattle.def_model.specs.Predicates.{Predicate, Recorded, test_of}
use Rattle.def_model.specs.Decided.{DecidesPossibly}
use Rattle.def_wide.specs.Sums.{IsDecidedBySums}
use Rattle.judge_causes.specs.Enough.{IsEnough, IsNeeded}

abbrev pub IsReceipt : Computation → Place → Type 0
IsReceipt c e = (id : List ℕ) × Receives c e id

-- receipts of the run in the order of their places, which are enough; and each of them is needed, if that is said
pub record AreCauses (r : Recorded) (predicate : Predicate) (receipts : List Place) (are_needed : Bool) :
    Type 0 where
  pub enough : IsEnough r predicate (Contains receipts)
  pub received : All (IsReceipt r.events) receipts
  pub ascending : AllPairs IsBefore receipts
  pub needed : IsTrue are_needed → All (IsNeeded r predicate receipts) receipts

-- The predicate is of a kind that is decided, whatever the width: it is of two processes, has few terms, or is decided
-- by sums.
abbrev pub IsDecided : Recorded → Predicate → Type 0
IsDecided r predicate = DecidesPossibly r predicate ⊎ IsDecidedBySums r predicate

-- it is, and no consistent cut satisfies
abbrev pub IsDecidedNo : Recorded → Predicate → Type 0
IsDecidedNo r predicate = IsDecided r predicate × (¬ Possibly r.events (test_of r predicate))
