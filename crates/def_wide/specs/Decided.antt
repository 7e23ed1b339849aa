-- Which predicates are decided at any width, without the levels of the lattice.
use Rattle.std.specs.Prelude.{false, ◌⊎◌}
use Rattle.def_model.specs.Decided.{DecidesDefinitely}
use Rattle.def_model.specs.Observations.{Possibly}
use Rattle.def_model.specs.Predicates.{Predicate, Recorded, test_of}
use Rattle.def_wide.specs.Parts.{PartsDecide}
use Rattle.def_wide.specs.Sums.{IsDecidedBySums}

-- Possibly of the predicate is decided: that of each of its parts is, or sums decide it and no consistent cut
-- satisfies.
abbrev pub IsPossiblyDecided : Recorded → Predicate → Type 0
IsPossiblyDecided r predicate =
    PartsDecide false r predicate ⊎ (IsDecidedBySums r predicate × (¬ Possibly r.events (test_of r predicate)))

-- Definitely of the predicate is decided: by its terms or its two processes, or since no cut satisfies it.
abbrev pub IsDefinitelyDecided : Recorded → Predicate → Type 0
IsDefinitelyDecided r predicate =
    DecidesDefinitely r predicate ⊎ (IsPossiblyDecided r predicate × (¬ Possibly r.events (test_of r predicate)))
