-- The answer for Possibly in the wording of observations. Source: Cooper and Marzullo, Consistent Detection of Global
-- Predicates, 1991.
use Rattle.std.specs.Prelude.{⊤, ◌≡◌, Bool, Contains, List, true, ℕ}
use Rattle.def_model.specs.Answers.{PossiblyAnswer, PossiblyNo, PossiblyUnknown, PossiblyYes}
use Rattle.def_model.specs.Events.{Computation}
use Rattle.def_model.specs.Observations.{IsObservation, PossiblyObserved}

-- Yes: some observation passes through the cut that is printed, and it satisfies. No: none has a satisfying cut.
abbrev pub IsObservedAnswer : Computation → (List ℕ → Bool) → PossiblyAnswer → Type 0
IsObservedAnswer c test (PossiblyUnknown k) = ⊤
IsObservedAnswer c test (PossiblyYes cut) =
    (cuts : List (List ℕ)) × IsObservation c cuts × Contains cuts cut × (test cut ≡ true)
IsObservedAnswer c test PossiblyNo = ¬ PossiblyObserved c test
