-- What the reduction of a run says of a predicate.
use Rattle.std.specs.Prelude.{◌≡◌, Bool, true, false, Option, Some, None}
use Rattle.def_format.specs.Documents.{NamedPredicate}
use Rattle.def_model.specs.Cuts.{IsConsistent}
use Rattle.def_model.specs.Observations.{Definitely, Possibly}
use Rattle.def_model.specs.Predicates.{Predicate, Recorded, test_of}
use Rattle.judge_lifted.specs.declared.answer.LiftedAnswer.{LiftedAnswer}
use Rattle.judge_lifted.specs.declared.answer.Reached.{Reached}
use Rattle.judge_lifted.specs.declared.answer.Reached.TheVariants.{At, Never, Unknown}

-- The counts are those of a consistent cut of the run that satisfies, or none satisfies.
abbrev pub IsReached : Recorded → Predicate → Reached → Type 0
IsReached r predicate (At counts) =
    IsConsistent r.events counts.items × (test_of r predicate counts.items ≡ true)
IsReached r predicate Never = ¬ Possibly r.events (test_of r predicate)
IsReached r predicate Unknown = Unit {0}

-- each observation of the run has a cut that satisfies, or that isn't so
abbrev pub IsDecided : Recorded → Predicate → Option Bool → Type 0
IsDecided r predicate (Some true) = Definitely r.events (test_of r predicate)
IsDecided r predicate (Some false) = ¬ Definitely r.events (test_of r predicate)
IsDecided r predicate None = Unit {0}

-- What is said of the predicate is right of the run.
pub record IsLifted (r : Recorded) (asked : NamedPredicate) (answer : LiftedAnswer) : Type 0 where
  pub possibly : IsReached r asked.predicate answer.possibly
  pub definitely : IsDecided r asked.predicate answer.definitely
