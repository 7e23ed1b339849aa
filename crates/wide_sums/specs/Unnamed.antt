-- Which processes a sum doesn't name.
use Rattle.std.specs.Prelude.{⊤, ◌≢◌, ℕ, List, [], ◌∷◌}
use Rattle.def_model.specs.Predicates.{Sign, Term, Number, Variable, Times}

-- the term doesn't name process p
abbrev pub NamesAnother : ℕ → Term → Type 0
NamesAnother p (Number k) = ⊤
NamesAnother p (Variable q v) = q ≢ p
NamesAnother p (Times k q v) = q ≢ p

-- no term of the sum does
abbrev pub NoneNames : ℕ → List (Sign × Term) → Type 0
NoneNames p [] = ⊤
NoneNames p ((sign, term) ∷ rest) = NamesAnother p term × NoneNames p rest
