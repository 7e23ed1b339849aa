-- A predicate sees the same if the variables that it names have the same values.
use Rattle.std.proofs.Common.{◌≡◌, ℕ, ◌<◌, List, [], ◌∷◌, length, get_or, Contains, ap, ap₂, refl, sym, subst, inr}
use Rattle.def_model.specs.Predicates.{Sign, Term, Number, Variable, Times, Predicate, Always, Never, Compare, Not, And, Or, Recorded}
use Rattle.def_long.specs.Renamed.{HaveValuesOf, SeesTheSameIn, renamed, renamed_sum}
use Rattle.def_long.specs.Views.{HaveSameValues, SeesTheSame, value_after}
use Rattle.def_orders.specs.Orders.{IsOver, SumIsOver}
use Rattle.judge_reduced.specs.Reductions.{identity_names}

-- the variable of process p is one of those that are seen, if p has any
abbrev pub IsNamed : List (List ℕ) → ℕ → ℕ → Type 0
IsNamed named p v = p < length named → Contains (get_or named p []) v

-- ---- a predicate keeps its names

same_sum : (sum : List (Sign × Term)) → renamed_sum identity_names sum ≡ sum
same_sum [] = refl
same_sum ((sign, Number k) ∷ rest) = ap (λ (others : List (Sign × Term)). (sign, Number k) ∷ others) (same_sum rest)
same_sum ((sign, Variable p v) ∷ rest) =
    ap (λ (others : List (Sign × Term)). (sign, Variable p v) ∷ others) (same_sum rest)
same_sum ((sign, Times k p v) ∷ rest) =
    ap (λ (others : List (Sign × Term)). (sign, Times k p v) ∷ others) (same_sum rest)

pub same_predicate : (predicate : Predicate) → renamed identity_names predicate ≡ predicate
same_predicate Always = refl
same_predicate Never = refl
same_predicate (Compare left comparison right) =
    ap₂ (λ (l r : List (Sign × Term)). Compare l comparison r) (same_sum left) (same_sum right)
same_predicate (Not inner) = ap Not (same_predicate inner)
same_predicate (And left right) = ap₂ And (same_predicate left) (same_predicate right)
same_predicate (Or left right) = ap₂ Or (same_predicate left) (same_predicate right)

-- ---- in two runs

module _ (r r' : Recorded) (named : List (List ℕ)) (p m n : ℕ)
    (same : (v : ℕ) → IsNamed named p v → value_after r m p v ≡ value_after r' n p v) where
  same_at : (q v : ℕ) → IsNamed named q v → q ≡ p → value_after r m q v ≡ value_after r' n q v
  same_at q v is_named at =
      subst (λ (x : ℕ). IsNamed named x v → value_after r m x v ≡ value_after r' n x v) (sym at) (same v) is_named

  have_values : (sum : List (Sign × Term)) → SumIsOver named sum → HaveValuesOf r m r' n identity_names p sum
  have_values [] over = tt
  have_values ((sign, Number k) ∷ rest) over = (tt, have_values rest over.1)
  have_values ((sign, Variable q v) ∷ rest) over = (same_at q v over.0, have_values rest over.1)
  have_values ((sign, Times k q v) ∷ rest) over = (same_at q v over.0, have_values rest over.1)

  pub sees_in : (predicate : Predicate) → IsOver named predicate → SeesTheSameIn r m r' n identity_names p predicate
  sees_in Always over = tt
  sees_in Never over = tt
  sees_in (Compare left comparison right) over = inr (have_values left over.0, have_values right over.1)
  sees_in (Not inner) over = sees_in inner over
  sees_in (And left right) over = (sees_in left over.0, sees_in right over.1)
  sees_in (Or left right) over = (sees_in left over.0, sees_in right over.1)

-- ---- at two moments of one run

module _ (r : Recorded) (named : List (List ℕ)) (p m n : ℕ)
    (same : (v : ℕ) → IsNamed named p v → value_after r m p v ≡ value_after r n p v) where
  stays_at : (q v : ℕ) → IsNamed named q v → q ≡ p → value_after r m q v ≡ value_after r n q v
  stays_at q v is_named at =
      subst (λ (x : ℕ). IsNamed named x v → value_after r m x v ≡ value_after r n x v) (sym at) (same v) is_named

  have_same : (sum : List (Sign × Term)) → SumIsOver named sum → HaveSameValues r p m n sum
  have_same [] over = tt
  have_same ((sign, Number k) ∷ rest) over = (tt, have_same rest over.1)
  have_same ((sign, Variable q v) ∷ rest) over = (stays_at q v over.0, have_same rest over.1)
  have_same ((sign, Times k q v) ∷ rest) over = (stays_at q v over.0, have_same rest over.1)

  pub sees : (predicate : Predicate) → IsOver named predicate → SeesTheSame r p m n predicate
  sees Always over = tt
  sees Never over = tt
  sees (Compare left comparison right) over = inr (have_same left over.0, have_same right over.1)
  sees (Not inner) over = sees inner over
  sees (And left right) over = (sees left over.0, sees right over.1)
  sees (Or left right) over = (sees left over.0, sees right over.1)
