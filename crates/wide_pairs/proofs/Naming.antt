-- Which processes a predicate names.
use Rattle.std.proofs.Common.{◌≡◌, ◌≢◌, ◌⊎◌, inl, inr, ℕ, ◌+◌, ◌<◌, ◌≤◌, List, [], ◌∷◌, length, get_or, drop, refl, sym, ◌∙◌, subst, arith}
use Rattle.std.proofs.lemmas.List.{drop_more}
use Rattle.pd_pred.specs.Trees.{term_view, terms_view}
use Rattle.pd_pred.specs.declared.tree.SignedTerm.{SignedTerm}
use Rattle.std.specs.Prelude.{Option, Some, None}
use Rattle.def_model.specs.Events.{Computation}
use Rattle.def_model.specs.Predicates.{Sign, Term, Number, Variable, Times, Predicate, Always, Never, Compare, Not, And, Or}
use Rattle.def_model.specs.Decided.{IsOfTwo, NamePair, NamesOnly, NamesPair}
use Rattle.wide_pairs.specs.Twos.{AreNamed, IsOther}
use Rattle.wide_pairs.specs.declared.pair.Pair.{Pair}

-- what is one of p and q is one of x and y
abbrev pub IsIn : ℕ → ℕ → ℕ → ℕ → Type 0
IsIn p q x y = (r : ℕ) → (r ≡ p) ⊎ (r ≡ q) → (r ≡ x) ⊎ (r ≡ y)

wider_term : (p q x y : ℕ) → IsIn p q x y → (term : Term) → NamesPair p q term → NamesPair x y term
wider_term p q x y is_in (Number n) names = tt
wider_term p q x y is_in (Variable r v) names = is_in r names
wider_term p q x y is_in (Times n r v) names = is_in r names

wider_sum : (p q x y : ℕ) → IsIn p q x y → (terms : List (Sign × Term)) → NamePair p q terms → NamePair x y terms
wider_sum p q x y is_in [] names = tt
wider_sum p q x y is_in ((sign, term) ∷ rest) names =
    (wider_term p q x y is_in term names.0, wider_sum p q x y is_in rest names.1)

-- a predicate that names none but p and q names none but x and y, if these are among them
pub wider : (p q x y : ℕ) → IsIn p q x y → (predicate : Predicate) → NamesOnly p q predicate
    → NamesOnly x y predicate
wider p q x y is_in Always names = tt
wider p q x y is_in Never names = tt
wider p q x y is_in (Compare left comparison right) names =
    (wider_sum p q x y is_in left names.0, wider_sum p q x y is_in right names.1)
wider p q x y is_in (Not inner) names = wider p q x y is_in inner names
wider p q x y is_in (And left right) names =
    (wider p q x y is_in left names.0, wider p q x y is_in right names.1)
wider p q x y is_in (Or left right) names =
    (wider p q x y is_in left names.0, wider p q x y is_in right names.1)

-- another process that a part names is one that the whole names
pub other_in : (Part Whole : ℕ → ℕ → Type 0) (p q r : ℕ) → ((x y : ℕ) → Whole x y → Part x y)
    → IsOther Part p q (Some r) → IsOther Whole p q (Some r)
other_in Part Whole p q r part is = (is.0, is.1, λ x y whole. is.2 x y (part x y whole))

-- what is found of the last part is found of the whole, where the rest names no other
pub other_last : (Part Whole : ℕ → ℕ → Type 0) (p q : ℕ) (found : Option ℕ) → ((x y : ℕ) → Whole x y → Part x y)
    → (Part p q → Whole p q) → IsOther Part p q found → IsOther Whole p q found
other_last Part Whole p q None part whole is = whole is
other_last Part Whole p q (Some r) part whole is = other_in Part Whole p q r part is

-- r is named: it is one of any two processes beside which the predicate names none
abbrev pub IsNamed : Predicate → ℕ → Type 0
IsNamed predicate r = (x y : ℕ) → NamesOnly x y predicate → (r ≡ x) ⊎ (r ≡ y)

pub none_named : (predicate : Predicate) → NamesOnly 0 0 predicate
    → AreNamed predicate (record { first = 0; second = 1 })
none_named predicate only = record {
  order = omega arith;
  only = wider 0 0 0 1 (λ r at. elim at [ inl first ↦ inl first | inr second ↦ inl second ]) predicate only;
  needed = λ x y names. inl refl;
}

pub one_named : (predicate : Predicate) (p : ℕ) → p ≢ 0 → IsNamed predicate p → NamesOnly p p predicate
    → AreNamed predicate (record { first = 0; second = p })
one_named predicate p differ named only = record {
  order = omega (arith, differ);
  only = wider p p 0 p (λ r at. elim at [ inl first ↦ inr first | inr second ↦ inr second ]) predicate only;
  needed = λ x y names. inr (named x y names);
}

pub two_named : (predicate : Predicate) (p q : ℕ) (pair : Pair) → IsNamed predicate p → IsNamed predicate q
    → NamesOnly p q predicate → pair.first < pair.second
    → ((pair.first ≡ p) × (pair.second ≡ q)) ⊎ ((pair.first ≡ q) × (pair.second ≡ p)) → AreNamed predicate pair
two_named predicate p q pair p_named q_named only order (inl same) = record {
  order = order;
  only = wider p q pair.first pair.second
      (λ r at. elim at [ inl first ↦ inl (first ∙ sym same.0) | inr second ↦ inr (second ∙ sym same.1) ])
      predicate only;
  needed = λ x y names.
      inr (subst (λ (r : ℕ). (r ≡ x) ⊎ (r ≡ y)) (sym same.1) (q_named x y names));
}
two_named predicate p q pair p_named q_named only order (inr same) = record {
  order = order;
  only = wider p q pair.first pair.second
      (λ r at. elim at [ inl first ↦ inr (first ∙ sym same.1) | inr second ↦ inl (second ∙ sym same.0) ])
      predicate only;
  needed = λ x y names.
      inr (subst (λ (r : ℕ). (r ≡ x) ⊎ (r ≡ y)) (sym same.1) (p_named x y names));
}

-- three different numbers aren't all among two
three_of_two : (p q r x y : ℕ) → q ≢ p → r ≢ p → r ≢ q → (p ≡ x) ⊎ (p ≡ y) → (q ≡ x) ⊎ (q ≡ y)
    → (r ≡ x) ⊎ (r ≡ y) → ⊥
three_of_two p q r x y qp rp rq (inl a) (inl b) c = qp (b ∙ sym a)
three_of_two p q r x y qp rp rq (inr a) (inr b) c = qp (b ∙ sym a)
three_of_two p q r x y qp rp rq (inl a) (inr b) (inl c) = rp (c ∙ sym a)
three_of_two p q r x y qp rp rq (inl a) (inr b) (inr c) = rq (c ∙ sym b)
three_of_two p q r x y qp rp rq (inr a) (inl b) (inl c) = rq (c ∙ sym b)
three_of_two p q r x y qp rp rq (inr a) (inl b) (inr c) = rp (c ∙ sym a)

pub three_named : (predicate : Predicate) (p q r : ℕ) → q ≢ p → r ≢ p → r ≢ q → IsNamed predicate p
    → IsNamed predicate q → IsNamed predicate r → (x y : ℕ) → ¬ NamesOnly x y predicate
three_named predicate p q r qp rp rq p_named q_named r_named x y only =
    three_of_two p q r x y qp rp rq (p_named x y only) (q_named x y only) (r_named x y only)

-- where the second process isn't there, the predicate isn't of two
pub not_of_two : (c : Computation) (predicate : Predicate) (pair : Pair) → AreNamed predicate pair
    → length c ≤ pair.second → ¬ IsOfTwo c predicate
not_of_two c predicate pair named le (p, q, order, there, only) = go (named.needed p q only)
  where
    go : (pair.second ≡ 1) ⊎ ((pair.second ≡ p) ⊎ (pair.second ≡ q)) → ⊥
    go (inl one) = omega (arith, one, order, there, le)
    go (inr (inl first)) = omega (arith, first, order, there, le)
    go (inr (inr second)) = omega (arith, second, order, there, le)

pub none_of_two : (c : Computation) (predicate : Predicate) → ((x y : ℕ) → ¬ NamesOnly x y predicate)
    → ¬ IsOfTwo c predicate
none_of_two c predicate none (p, q, order, there, only) = none p q only

-- what the terms from i on name, the one at i and the later ones do
pub first_names : (x y : ℕ) (items terms : List SignedTerm) (i : ℕ) (d : SignedTerm) → items ≡ terms
    → i < length items → NamePair x y (terms_view (drop i terms))
    → NamesPair x y (term_view (get_or items i d).term) × NamePair x y (terms_view (drop (i + 1) terms))
first_names x y items terms i d same lt names =
    let more : drop i items ≡ get_or items i d ∷ drop (i + 1) items = drop_more items i d lt in
    let at : NamePair x y (terms_view (drop i items)) =
    subst (λ (ts : List SignedTerm). NamePair x y (terms_view (drop i ts))) (sym same) names in
    let both : NamePair x y (terms_view (get_or items i d ∷ drop (i + 1) items)) =
    subst (λ (ts : List SignedTerm). NamePair x y (terms_view ts)) more at in
    (both.0, subst (λ (ts : List SignedTerm). NamePair x y (terms_view (drop (i + 1) ts))) same both.1)

pub both_name : (x y : ℕ) (items terms : List SignedTerm) (i : ℕ) (d : SignedTerm) → items ≡ terms
    → i < length items → NamesPair x y (term_view (get_or items i d).term)
    → NamePair x y (terms_view (drop (i + 1) terms)) → NamePair x y (terms_view (drop i terms))
both_name x y items terms i d same lt first rest =
    let more : drop i items ≡ get_or items i d ∷ drop (i + 1) items = drop_more items i d lt in
    let later : NamePair x y (terms_view (drop (i + 1) items)) =
    subst (λ (ts : List SignedTerm). NamePair x y (terms_view (drop (i + 1) ts))) (sym same) rest in
    let both : NamePair x y (terms_view (get_or items i d ∷ drop (i + 1) items)) = (first, later) in
    subst (λ (ts : List SignedTerm). NamePair x y (terms_view (drop i ts))) same
    (subst (λ (ts : List SignedTerm). NamePair x y (terms_view ts)) (sym more) both)
