-- What is decided of Possibly decides Definitely where no cut satisfies.
use Rattle.std.proofs.Common.{inl, inr, ℕ, List}
use Rattle.wide.specs.Found.{FindsPossibly}
use Rattle.walk_back.specs.declared.possibly_answer.PossiblyAnswer.TheVariants.{Yes}
use Rattle.std.specs.Prelude.{Some}
use Rattle.def_model.specs.Answers.{IsExactDefinitely, DefinitelyNo}
use Rattle.def_model.specs.Decided.{IsDecidedByTerms, IsOfTwo}
use Rattle.def_model.specs.Observations.{Possibly}
use Rattle.def_model.specs.Predicates.{Predicate, Recorded, test_of}
use Rattle.def_wide.specs.Decided.{IsDefinitelyDecided, IsPossiblyDecided}
use Rattle.def_wide.proofs.Wholes.{definitely_after_possibly}
use Rattle.wide_terms.specs.Passages.{IsPathOfAll}

-- where no cut satisfies, the path is that of each such predicate
pub no_after : (r : Recorded) (predicate : Predicate) (path : List ℕ) → IsPossiblyDecided r predicate
    → (¬ Possibly r.events (test_of r predicate)) → IsPathOfAll r.events path
    → IsDefinitelyDecided r predicate × IsExactDefinitely r.events (test_of r predicate) (DefinitelyNo path)
no_after r predicate path decided none of_all =
    (inr (decided, none), ((of_all (test_of r predicate) none).1, (of_all (test_of r predicate) none).0))

-- a first satisfying cut is one that satisfies
pub is_possible : (r : Recorded) (predicate : Predicate) (cut : List ℕ)
    → FindsPossibly r predicate (Some (Yes cut)) → Possibly r.events (test_of r predicate)
is_possible r predicate cut found = (cut, found.1.consistent, found.1.satisfies)

-- if Possibly isn't decided, Definitely isn't
pub neither : (r : Recorded) (predicate : Predicate) → (¬ IsPossiblyDecided r predicate)
    → ¬ IsDefinitelyDecided r predicate
neither r predicate undecided decided = undecided (definitely_after_possibly r predicate decided)

-- nor is it where a cut satisfies, if neither terms nor two processes decide it
pub none_decides : (r : Recorded) (predicate : Predicate) → Possibly r.events (test_of r predicate)
    → (¬ IsDecidedByTerms r predicate) → (¬ IsOfTwo r.events predicate) → ¬ IsDefinitelyDecided r predicate
none_decides r predicate possible no_terms not_two (inl (inl two)) = not_two two
none_decides r predicate possible no_terms not_two (inl (inr terms)) = no_terms terms
none_decides r predicate possible no_terms not_two (inr never) = never.1 possible
