-- What holds of what is decided.
use Rattle.def_model.specs.Decided.{DecidesPossibly}
use Rattle.std.specs.Prelude.{◌≡◌, ℕ, ◌≤◌}
use Rattle.def_model.specs.Cuts.{total}
use Rattle.def_model.specs.Observations.{Definitely, HasNoAvoiding}
use Rattle.def_model.specs.Order.{HasNoCycle}
use Rattle.def_model.specs.Predicates.{Predicate, Recorded, test_of}
use Rattle.def_wide.specs.Decided.{IsDefinitelyDecided, IsPossiblyDecided}
use Rattle.def_wide.specs.Gates.{IsGate, IsLateLevel}

-- A predicate that decides Possibly as a whole does so by its parts.
abbrev pub WholeIsDecided : Type 0
WholeIsDecided = (r : Recorded) (predicate : Predicate) → DecidesPossibly r predicate → IsPossiblyDecided r predicate

-- If Definitely is decided, Possibly is.
abbrev pub DefinitelyAfterPossibly : Type 0
DefinitelyAfterPossibly =
    (r : Recorded) (predicate : Predicate) → IsDefinitelyDecided r predicate → IsPossiblyDecided r predicate

-- Every observation passes through a satisfying cut if a predicate has a gate, and no cut of its level avoids.
abbrev pub GatesDecide : Type 0
GatesDecide =
    (r : Recorded) (predicate : Predicate) (level : ℕ) → HasNoCycle r.events → IsGate r predicate level
    → Definitely r.events (test_of r predicate) × HasNoAvoiding r.events (test_of r predicate) level
    × (level ≤ total r.events)

-- The same of the level that is printed where the levels under a width leave the answer unknown, and there is one such
-- level at most.
abbrev pub LateLevelDecides : Type 0
LateLevelDecides =
    (r : Recorded) (predicate : Predicate) (w level : ℕ) → HasNoCycle r.events → IsLateLevel r predicate w level
    → Definitely r.events (test_of r predicate) × HasNoAvoiding r.events (test_of r predicate) level
    × (level ≤ total r.events)

abbrev pub OneLateLevel : Type 0
OneLateLevel =
    (r : Recorded) (predicate : Predicate) (w level other : ℕ) → IsLateLevel r predicate w level
    → IsLateLevel r predicate w other → level ≡ other
