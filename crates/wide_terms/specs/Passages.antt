-- What the terms of a predicate decide of Definitely.
use Rattle.std.specs.Prelude.{ℕ, Bool, List}
use Rattle.wide_conjunctions.specs.declared.passage.Passage.{Passage}
use Rattle.wide_conjunctions.specs.declared.passage.Passage.TheVariants as passages
use Rattle.def_model.specs.Answers.{IsLeastFree, IsPrintedPath}
use Rattle.def_model.specs.Events.{Computation}
use Rattle.def_model.specs.Observations.{Definitely, Possibly}
use Rattle.def_model.specs.Predicates.{Predicate, Recorded, test_of}
use Rattle.def_model.specs.Decided.{IsDecidedByTerms}
use Rattle.wide_terms.specs.declared.passage.PassageByTerms.{PassageByTerms}
use Rattle.wide_terms.specs.declared.passage.PassageByTerms.TheVariants.{Passed, Avoided, Undecided}

-- every observation passes through a satisfying cut, and this is the least level with no avoiding cut
abbrev pub IsPassedFrom : Computation → (List ℕ → Bool) → ℕ → Type 0
IsPassedFrom c test level = IsLeastFree c test level × Definitely c test

-- this is the path printed of an observation without a satisfying cut
abbrev pub IsAvoidedAlong : Computation → (List ℕ → Bool) → List ℕ → Type 0
IsAvoidedAlong c test path = IsPrintedPath c test path × (¬ Definitely c test)

-- of each predicate that no consistent cut satisfies, this is that path
abbrev pub IsPathOfAll : Computation → List ℕ → Type 0
IsPathOfAll c path = (test : List ℕ → Bool) → ¬ Possibly c test → IsAvoidedAlong c test path

-- one of both
abbrev pub IsPassageOf : Computation → (List ℕ → Bool) → Passage → Type 0
IsPassageOf c test (passages.Passed level) = IsPassedFrom c test level
IsPassageOf c test (passages.Avoided path) = IsAvoidedAlong c test path.items

-- The least level with no avoiding cut; or the path printed of an observation without a satisfying cut; or the
-- predicate isn't one that its terms decide.
abbrev pub IsRightPassage : Recorded → Predicate → PassageByTerms → Type 0
IsRightPassage r predicate (Passed level) =
    IsDecidedByTerms r predicate × IsPassedFrom r.events (test_of r predicate) level
IsRightPassage r predicate (Avoided path) =
    IsDecidedByTerms r predicate × IsAvoidedAlong r.events (test_of r predicate) path.items
IsRightPassage r predicate Undecided = ¬ IsDecidedByTerms r predicate
