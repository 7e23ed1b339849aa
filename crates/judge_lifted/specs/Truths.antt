-- What an answer of the reduction says of the run.
use Rattle.def_format.specs.Documents.{NamedPredicate}
use Rattle.def_format.specs.Reports as reports
use Rattle.def_model.specs.Observations.{Definitely, Possibly}
use Rattle.def_model.specs.Predicates.{Predicate, Recorded, test_of}

-- a no is right of the run; a yes is shown by a cut that is made of its own
abbrev pub IsPossiblyOf : Recorded → Predicate → reports.Possibly → Type 0
IsPossiblyOf r predicate (reports.Possibly.Yes cut) = Unit {0}
IsPossiblyOf r predicate reports.Possibly.No = ¬ Possibly r.events (test_of r predicate)
IsPossiblyOf r predicate (reports.Possibly.Unknown level) = Unit {0}

-- a yes and a no are right of the run
abbrev pub IsDefinitelyOf : Recorded → Predicate → reports.Definitely → Type 0
IsDefinitelyOf r predicate (reports.Definitely.Yes level) = Definitely r.events (test_of r predicate)
IsDefinitelyOf r predicate (reports.Definitely.No path) = ¬ Definitely r.events (test_of r predicate)
IsDefinitelyOf r predicate (reports.Definitely.Unknown level) = Unit {0}

-- The answer of the reduction, without evidence, is right of the run as far as it is known.
pub record IsTruthOf (r : Recorded) (asked : NamedPredicate) (answer : reports.Answer) : Type 0 where
  pub possibly : IsPossiblyOf r asked.predicate answer.possibly
  pub definitely : IsDefinitelyOf r asked.predicate answer.definitely
