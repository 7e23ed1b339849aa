-- What a search back comes to.
use Rattle.std.specs.Prelude.{ℕ, List}
use Rattle.def_model.specs.Predicates.{Predicate, Recorded}
use Rattle.def_wide.specs.DeadEnds.{EndsBack, IsFoundBack}
use Rattle.wide_back.specs.declared.way.Way.{Way}
use Rattle.wide_back.specs.declared.way.Way.TheVariants.{Avoided, Passed, Undecided}

-- The answer is right: the path is found with no more than w dead ends before it, or the search ends with no more than
-- w; or neither is so.
abbrev pub IsWay : Recorded → Predicate → ℕ → Way → Type 0
IsWay r predicate w (Avoided path) = IsFoundBack r predicate w path.items
IsWay r predicate w Passed = EndsBack r predicate w
IsWay r predicate w Undecided = ((path : List ℕ) → ¬ IsFoundBack r predicate w path) × (¬ EndsBack r predicate w)
