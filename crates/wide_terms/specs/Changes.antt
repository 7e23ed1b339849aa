-- What an event leaves as it is.
use Rattle.std.specs.Prelude.{◌≡◌, ℕ, All, List, [], ◌∷◌, ◌++◌, slice_index}
use Rattle.def_model.specs.Predicates.{Sign, Term, Number, Variable, Times, Predicate, Recorded, state_at, sum_value, test_of}

-- the variable that a term names, and those that a sum does, of whatever process
abbrev pub vars_of_term : Term → List ℕ
vars_of_term (Number n) = []
vars_of_term (Variable p v) = v ∷ []
vars_of_term (Times n p v) = v ∷ []

abbrev pub vars_of : List (Sign × Term) → List ℕ
vars_of [] = []
vars_of ((sign, term) ∷ rest) = vars_of_term term ++ vars_of rest

-- what is the same at each cut with n events of process p, and at each one with m
abbrev pub IsSame : {A : Type 0} → (List ℕ → A) → ℕ → ℕ → ℕ → Type 0
IsSame f p n m =
    (first second : List ℕ) → slice_index first p ≡ n → slice_index second p ≡ m → f first ≡ f second

-- the value of a variable of process p
abbrev pub VariableStays : Recorded → ℕ → ℕ → ℕ → ℕ → Type 0
VariableStays r p n m v = IsSame (λ cut. state_at r.initial r.events cut p v) p n m

-- that of a sum
abbrev pub SumStays : Recorded → List (Sign × Term) → ℕ → ℕ → ℕ → Type 0
SumStays r terms p n m = IsSame (λ cut. sum_value (state_at r.initial r.events cut) terms) p n m

-- whether a predicate holds stays as long as these variables of process p do
abbrev pub DependsOnVars : Recorded → Predicate → ℕ → List ℕ → Type 0
DependsOnVars r predicate p vars =
    (n m : ℕ) → All (VariableStays r p n m) vars → IsSame (test_of r predicate) p n m
