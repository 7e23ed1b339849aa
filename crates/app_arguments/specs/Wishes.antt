-- What is wished of the predicates of recorded runs, by the names that the arguments give.
use Rattle.std.specs.Prelude.{ℕ, List, [], ◌∷◌, map, Some, None}
use Rattle.judge_runs.specs.Wishes.{Condition, Kind, PossiblyNo}

-- wishes of one kind for the predicates of these names
abbrev pub wishes_for : Kind → (names : List (List ℕ)) → List Condition
wishes_for kind names = map (λ (name : List ℕ). record { name = Some name; kind = kind }) names

-- these wishes, or that no predicate ever holds, if there are none
abbrev pub or_none_ever : List Condition → List Condition
or_none_ever [] = record { name = None; kind = PossiblyNo } ∷ []
or_none_ever (wish ∷ wishes) = wish ∷ wishes
