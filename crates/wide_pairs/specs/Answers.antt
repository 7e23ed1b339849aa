-- What the counts of two processes decide of a predicate that speaks of these two alone.
use Rattle.def_model.specs.Answers.{IsLeastFree, IsPrintedPath}
use Rattle.def_model.specs.Observations.{Definitely}
use Rattle.def_model.specs.Predicates.{Predicate, Recorded, test_of}
use Rattle.def_model.specs.Decided.{IsOfTwo}
use Rattle.wide_pairs.specs.declared.definitely.PassageOfTwo.{PassageOfTwo}
use Rattle.wide_pairs.specs.declared.definitely.PassageOfTwo.TheVariants as passage

-- Every observation passes through a satisfying cut, and this is the least level that has no avoiding one; or there is
-- an avoiding observation, and this is the path that is printed; or the predicate isn't of two.
abbrev pub IsRightPassage : Recorded → Predicate → PassageOfTwo → Type 0
IsRightPassage r predicate (passage.Passed level) =
    IsOfTwo r.events predicate × IsLeastFree r.events (test_of r predicate) level
    × Definitely r.events (test_of r predicate)
IsRightPassage r predicate (passage.Avoided path) =
    IsOfTwo r.events predicate × IsPrintedPath r.events (test_of r predicate) path.items
    × (¬ Definitely r.events (test_of r predicate))
IsRightPassage r predicate passage.Undecided = ¬ IsOfTwo r.events predicate
