-- What the first satisfying cut, and sums, say of a run.
use Rattle.std.proofs.Common.{◌≡◌, inl, inr, subst}
use Rattle.std.specs.Prelude.{List, ℕ, Option, Some, None}
use Rattle.def_model.specs.Decided.{DecidesPossibly}
use Rattle.def_model.specs.Predicates.{Predicate, Recorded, test_of}
use Rattle.def_wide.specs.Parts.{IsFirstIfAny}
use Rattle.def_wide.specs.Sums.{IsDecidedBySums}
use Rattle.judge_causes.specs.Causes.{IsDecided}
use Rattle.judge_causes.specs.Search.{IsTrialOf}
use Rattle.judge_causes.specs.declared.trial.Trial.TheVariants.{Enough, NotEnough}

pub some_first : (r : Recorded) (predicate : Predicate) (first : Option (List ℕ)) (cut : List ℕ) → first ≡ Some cut
    → IsFirstIfAny r.events (test_of r predicate) first → IsTrialOf r predicate NotEnough
some_first r predicate first cut is found none =
    let at : IsFirstIfAny r.events (test_of r predicate) (Some cut) =
    subst (IsFirstIfAny r.events (test_of r predicate)) is found in
    none (cut, at.consistent, at.satisfies)

pub none_first : (r : Recorded) (predicate : Predicate) (first : Option (List ℕ)) → first ≡ None
    → IsFirstIfAny r.events (test_of r predicate) first → IsTrialOf r predicate Enough
none_first r predicate first is found = subst (IsFirstIfAny r.events (test_of r predicate)) is found

pub neither : (r : Recorded) (predicate : Predicate) → (¬ DecidesPossibly r predicate)
    → (¬ IsDecidedBySums r predicate) → ¬ IsDecided r predicate
neither r predicate other sums (inl by_other) = other by_other
neither r predicate other sums (inr by_sums) = sums by_sums
