-- Which process the sums of a comparison name.
use Rattle.std.proofs.Common.{◌≡◌, ℕ, List, [], ◌∷◌, Some, None, Option, refl, sym, ap, ◌∙◌, subst}
use Rattle.def_model.specs.Predicates.{Sign, Term, Number, Variable, Times}
use Rattle.def_model.specs.Decided.{NameAlone, NameOne}
use Rattle.wide_terms.specs.Locals.{first_named, first_of_both, or_first}

or_zero : Option ℕ → ℕ
or_zero None = 0
or_zero (Some x) = x

IsNothing : Option ℕ → Type 0
IsNothing None = Unit {0}
IsNothing (Some x) = ⊥

pub some_same : (x y : ℕ) → Some x ≡ Some y → x ≡ y
unfolding or_zero
some_same x y e = ap or_zero e

pub none_some : (x : ℕ) → None ≡ Some x → ⊥
unfolding IsNothing
none_some x e = subst IsNothing e tt

-- a sum that names a process names no other but that one
pub first_is : (terms : List (Sign × Term)) (p q : ℕ) → first_named terms ≡ Some q → NameAlone p terms → p ≡ q
first_is [] p q first alone = absurd (none_some q first)
first_is ((sign, Number n) ∷ rest) p q first alone = first_is rest p q first alone.1
first_is ((sign, Variable r v) ∷ rest) p q first alone = sym alone.0 ∙ some_same r q first
first_is ((sign, Times n r v) ∷ rest) p q first alone = sym alone.0 ∙ some_same r q first

-- a sum that names none names no other than any
pub none_alone : (terms : List (Sign × Term)) (p : ℕ) → first_named terms ≡ None → NameAlone p terms
none_alone [] p none = tt
none_alone ((sign, Number n) ∷ rest) p none = (tt, none_alone rest p none)
none_alone ((sign, Variable r v) ∷ rest) p none = absurd (none_some r (sym none))
none_alone ((sign, Times n r v) ∷ rest) p none = absurd (none_some r (sym none))

-- where the first sum names a process, both name one exactly if neither names another
pub one_by_left : (left right : List (Sign × Term)) (q : ℕ) → first_named left ≡ Some q → NameOne left right
    → NameAlone q left × NameAlone q right
one_by_left left right q first (p, l, r) =
    let same : p ≡ q = first_is left p q first l in
    (subst (λ (n : ℕ). NameAlone n left) same l, subst (λ (n : ℕ). NameAlone n right) same r)

pub one_by_right : (left right : List (Sign × Term)) (q : ℕ) → first_named right ≡ Some q → NameOne left right
    → NameAlone q right
one_by_right left right q first (p, l, r) = subst (λ (n : ℕ). NameAlone n right) (first_is right p q first r) r

-- both name no process but the first that one of them names
pub both_is : (left right : List (Sign × Term)) (p q : ℕ) → first_of_both left right ≡ Some q → NameAlone p left
    → NameAlone p right → p ≡ q
both_is left right p q first l r = go (first_named left) refl
  where
    go : (found : Option ℕ) → first_named left ≡ found → p ≡ q
    go (Some n) at =
        first_is left p q (at ∙ (sym (ap (λ (o : Option ℕ). or_first o (first_named right)) at) ∙ first)) l
    go None at =
        first_is right p q (sym (ap (λ (o : Option ℕ). or_first o (first_named right)) at) ∙ first) r

-- neither names one
pub both_none : (left right : List (Sign × Term)) (p : ℕ) → first_of_both left right ≡ None → NameAlone p left
    × NameAlone p right
both_none left right p none = go (first_named left) refl
  where
    go : (found : Option ℕ) → first_named left ≡ found → NameAlone p left × NameAlone p right
    go (Some n) at =
        absurd (none_some n (sym none ∙ ap (λ (o : Option ℕ). or_first o (first_named right)) at))
    go None at = (
      none_alone left p at,
      none_alone right p (sym (ap (λ (o : Option ℕ). or_first o (first_named right)) at) ∙ none),
    )
