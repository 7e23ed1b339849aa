-- The definitions, tried on predicates of three processes.
use Rattle.std.proofs.Common.{◌≡◌, ◌⊎◌, inl, inr, ℕ, zero, suc, List, [], ◌∷◌, refl, subst, lit≤, arith}
use Rattle.std.specs.Prelude.{false, Contains}
use Rattle.std.proofs.lemmas.List.Elements.{All-nil}
use Rattle.def_model.specs.Decided.{DecidesPossibly}
use Rattle.def_model.specs.Predicates.{Number, Variable, IsAtLeast, Plus, Or}
use Rattle.def_wide.specs.Examples.{AllEqual, SomeTwoDiffer, SumReaches, differ, reach}
use Rattle.def_wide.specs.Parts.{PartsDecide}
use Rattle.def_wide.specs.Sums.{IsDecidedTerm, IsLocalLiteral, IsOnlySum}
use Rattle.def_wide.specs.Terms.{Literal}

-- three processes aren't among two
three : (p q : ℕ) → (0 ≡ p) ⊎ (0 ≡ q) → (1 ≡ p) ⊎ (1 ≡ q) → (2 ≡ p) ⊎ (2 ≡ q) → ⊥
three p q (inl a) (inl b) c = omega (arith, a, b)
three p q (inl a) (inr b) (inl c) = omega (arith, a, c)
three p q (inl a) (inr b) (inr c) = omega (arith, b, c)
three p q (inr a) (inl b) (inl c) = omega (arith, b, c)
three p q (inr a) (inl b) (inr c) = omega (arith, a, c)
three p q (inr a) (inr b) c = omega (arith, a, b)

-- a comparison of both isn't local
apart : (p : ℕ) → (0 ≡ p) → (1 ≡ p) → ⊥
apart p a b = omega (arith, a, b)

pub some_two_differ : SomeTwoDiffer
some_two_differ r there = (
  inl (
    (
      inl (0, 1, omega arith, omega (arith, there), ((inl refl, tt), (inr refl, tt))),
      inl (1, 2, omega arith, omega (arith, there), ((inl refl, tt), (inr refl, tt))),
    ),
    inl (0, 2, omega arith, omega (arith, there), ((inl refl, tt), (inr refl, tt))),
  ),
  inl (
    inl (0, 1, omega arith, omega (arith, there), ((inl refl, tt), (inr refl, tt))),
    inl (1, 2, omega arith, omega (arith, there), ((inl refl, tt), (inr refl, tt))),
  ),
  whole,
)
  where
    whole : ¬ DecidesPossibly r (Or (Or (differ 0 1) (differ 1 2)) (differ 0 2))
    whole (inl (p, q, order, within, names)) =
        three p q names.0.0.0.0 names.0.0.1.0 names.0.1.1.0
    whole (inr (local, few)) = apart local.0.0.0 local.0.0.1.0 local.0.0.2.0

pub all_equal : AllEqual
all_equal r (inl (p, q, order, within, names)) = three p q names.0.0.0 names.0.1.0 names.1.1.0
all_equal r (inr (local, few)) = apart local.0.0 local.0.1.0 local.0.2.0

pub sum_reaches : SumReaches
sum_reaches r n there = (
  record {
    few = lit≤ tt;
    there = ((omega (arith, there), (omega (arith, there), (omega (arith, there), tt))), (tt, tt));
    terms = λ term at. subst (IsDecidedTerm r) (at_first term at) (inr (inr (sum, only, tt)));
  },
  parts,
)
  where
    sum : Literal
    sum = record {
      left = (Plus, Variable 0 0) ∷ (Plus, Variable 1 0) ∷ (Plus, Variable 2 0) ∷ [];
      comparison = IsAtLeast;
      right = (Plus, Number n) ∷ [];
    }

    several : (p : ℕ) → (0 ≡ p) → (1 ≡ p) → ⊥
    several p a b = omega (arith, a, b)

    only : IsOnlySum (sum ∷ []) sum
    only = ([], [], refl, All-nil IsLocalLiteral, λ one. several one.0 one.1.0 one.1.1.0, All-nil IsLocalLiteral)

    at_first : (term : List Literal) → Contains ((sum ∷ []) ∷ []) term → (sum ∷ []) ≡ term
    at_first term (zero, lt, is) = is
    at_first term (suc k, lt, is) = absurd (omega (arith, lt))

    parts : ¬ PartsDecide false r (reach n)
    parts (inl (p, q, order, within, names)) = three p q names.0.0 names.0.1.0 names.0.1.1.0
    parts (inr (local, few)) = several local.0 local.1.0 local.1.1.0
