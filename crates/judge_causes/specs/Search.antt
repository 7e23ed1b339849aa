-- What a search for receipts that are enough keeps.
use Rattle.std.specs.Prelude.{All, AllPairs, Contains, ◌≡◌, ◌≤◌, ◌++◌, ◌+◌, ℕ, IsTrue, Bool, List, length, take}
use Rattle.def_model.specs.Events.{Place, IsBefore}
use Rattle.def_model.specs.Observations.{Possibly}
use Rattle.def_model.specs.Predicates.{Predicate, Recorded, test_of}
use Rattle.judge_causes.specs.Causes.{IsDecided, IsReceipt}
use Rattle.judge_causes.specs.Enough.{IsEnough, IsNeeded}
use Rattle.judge_causes.specs.Reduced.{is_listed, reduced_run}
use Rattle.pd_clock.specs.Orders.{places_view}
use Rattle.judge_causes.specs.declared.range.Range.{Range}
use Rattle.judge_causes.specs.declared.search.Search.{Search}
use Rattle.judge_causes.specs.declared.trial.Trial.{Trial}
use Rattle.judge_causes.specs.declared.trial.Trial.TheVariants.{Enough, NotEnough, Undecided}

-- what is found of a run: whether no consistent cut satisfies
abbrev pub IsTrialOf : Recorded → Predicate → Trial → Type 0
IsTrialOf r predicate Enough = ¬ Possibly r.events (test_of r predicate)
IsTrialOf r predicate NotEnough = ¬ ¬ Possibly r.events (test_of r predicate)
IsTrialOf r predicate Undecided = ¬ IsDecided r predicate

-- what is found of these receipts
abbrev pub IsTrial : Recorded → Predicate → List Place → Trial → Type 0
IsTrial r predicate receipts Enough = IsEnough r predicate (Contains receipts)
IsTrial r predicate receipts NotEnough = ¬ IsEnough r predicate (Contains receipts)
IsTrial r predicate receipts Undecided = IsTrialOf (reduced_run (is_listed receipts) r) predicate Undecided

-- The first `count` candidates are enough with those that are kept; and if it is said, one less isn't enough.
pub record IsShort (r : Recorded) (predicate : Predicate) (candidates kept : List Place) (count : ℕ) (is_least : Bool) :
    Type 0 where
  pub within : count ≤ length candidates
  pub enough : IsEnough r predicate (Contains (take count candidates ++ kept))
  pub least : IsTrue is_least → (fewer : ℕ) → fewer + 1 ≡ count
      → ¬ IsEnough r predicate (Contains (take fewer candidates ++ kept))

-- The candidates and those that are kept are receipts of the run, in the order of their places, and are enough; and if
-- it is said, each that is kept is needed.
pub record IsSearched (r : Recorded) (predicate : Predicate) (candidates kept : List Place) (are_needed : Bool) :
    Type 0 where
  pub enough : IsEnough r predicate (Contains (candidates ++ kept))
  pub received : All (IsReceipt r.events) (candidates ++ kept)
  pub ascending : AllPairs IsBefore (candidates ++ kept)
  pub needed : IsTrue are_needed → All (IsNeeded r predicate (candidates ++ kept)) kept

-- The least number of candidates that is enough with those that are kept is `low` or more, as far as trials have found,
-- and is surely if it is said; `high` are enough.
pub record IsRange (r : Recorded) (predicate : Predicate) (candidates kept : List Place) (range : Range) : Type 0 where
  pub ordered : range.low ≤ range.high
  pub within : range.high ≤ length candidates
  pub enough : IsEnough r predicate (Contains (take range.high candidates ++ kept))
  pub least : IsTrue range.is_sure → (fewer : ℕ) → fewer + 1 ≡ range.low
      → ¬ IsEnough r predicate (Contains (take fewer candidates ++ kept))

-- the same of a state of the search
abbrev pub IsStage : Recorded → Predicate → Search → Type 0
IsStage r predicate search =
    IsSearched r predicate (places_view search.candidates.items) (places_view search.kept.items) search.are_needed
