-- What a predicate names: variables, and processes by their variables.
use Rattle.std.specs.Prelude.{ℕ, Bool, false, ◌||◌, ◌&&◌, nat_eq, List}
use Rattle.std.specs.List.{list_any}
use Rattle.def_model.specs.Predicates.{Predicate, Sign, Term, Number, Variable, Times, Always, Never, Compare, Not, And, Or}

abbrev pub term_names : (process var : ℕ) → Term → Bool
term_names process var (Number n) = false
term_names process var (Variable p v) = nat_eq p process && nat_eq v var
term_names process var (Times n p v) = nat_eq p process && nat_eq v var

abbrev pub terms_name : (process var : ℕ) → List (Sign × Term) → Bool
terms_name process var terms = list_any (λ (signed : Sign × Term). term_names process var signed.1) terms

-- a term of the predicate is this variable, or a number times it
abbrev pub names_variable : (process var : ℕ) → Predicate → Bool
names_variable process var Always = false
names_variable process var Never = false
names_variable process var (Compare left comparison right) =
    terms_name process var left || terms_name process var right
names_variable process var (Not inner) = names_variable process var inner
names_variable process var (And left right) = names_variable process var left || names_variable process var right
names_variable process var (Or left right) = names_variable process var left || names_variable process var right

abbrev pub term_names_of : (process : ℕ) → Term → Bool
term_names_of process (Number n) = false
term_names_of process (Variable p v) = nat_eq p process
term_names_of process (Times n p v) = nat_eq p process

abbrev pub terms_name_of : (process : ℕ) → List (Sign × Term) → Bool
terms_name_of process terms = list_any (λ (signed : Sign × Term). term_names_of process signed.1) terms

-- a term of the predicate is a variable of this process, or a number times one
abbrev pub names_process : (process : ℕ) → Predicate → Bool
names_process process Always = false
names_process process Never = false
names_process process (Compare left comparison right) = terms_name_of process left || terms_name_of process right
names_process process (Not inner) = names_process process inner
names_process process (And left right) = names_process process left || names_process process right
names_process process (Or left right) = names_process process left || names_process process right
