-- A sum of terms that name two processes alone is what each of them adds.
use Rattle.std.proofs.Common.{◌≡◌, ◌≢◌, ◌⊎◌, inl, inr, ℕ, ◌<◌, List, [], ◌∷◌, refl, ap, ◌∙◌, cond, nat_eq, ℤ, pos, ◌+ℤ◌, ◌-ℤ◌, ◌*ℤ◌, arith}
use Rattle.std.specs.Prelude.{true, false, slice_index}
use Rattle.std.proofs.lemmas.Int.{ints}
use Rattle.std.proofs.lemmas.Bool.Decides.{nat_tests}
use Rattle.def_model.specs.Predicates.{Sign, Plus, Minus, Term, Number, Variable, Times, Recorded, signed, state_at, sum_value, term_value, Comparison, Equals, Differs, IsLess, IsAtMost, IsGreater, IsAtLeast, Compare, compares}
use Rattle.wide_pairs.specs.Parts.{IsRowOf, number_at, part_value, parts_value, value_after}
use Rattle.wide_pairs.specs.Tests.{IsByCounts}
use Rattle.def_model.specs.Decided.{NamePair, NamesPair}

-- two numbers compare as their difference does with 0
pub compares_difference : (comparison : Comparison) (a b d : ℤ) → d ≡ a -ℤ b
    → compares comparison d (pos 0) ≡ compares comparison a b
compares_difference Equals a b d is = grind (arith, ints)
compares_difference Differs a b d is = grind (arith, ints)
compares_difference IsLess a b d is = grind (arith, ints)
compares_difference IsAtMost a b d is = grind (arith, ints)
compares_difference IsGreater a b d is = grind (arith, ints)
compares_difference IsAtLeast a b d is = grind (arith, ints)

signed-add : (side : Sign) (a b : ℤ) → signed side (a +ℤ b) ≡ signed side a +ℤ signed side b
signed-add Plus a b = λ i. a +ℤ b
signed-add Minus a b = omega (arith, ints)

-- what stands at p or at q is one of two numbers, of which the other is left out
split_at : (value : ℕ → ℤ) (p q x : ℕ) → p ≢ q → (x ≡ p) ⊎ (x ≡ q)
    → value x ≡ cond (nat_eq x p) (value p) (pos 0) +ℤ cond (nat_eq x q) (value q) (pos 0)
split_at value p q x differ (inl at) = grind (arith, nat_tests, ints)
split_at value p q x differ (inr at) = grind (arith, nat_tests, ints)

term_split : (r : Recorded) (p q : ℕ) (cut : List ℕ) → p ≢ q → (term : Term) → NamesPair p q term
    → term_value (state_at r.initial r.events cut) term
    ≡ part_value r p (slice_index cut p) true term +ℤ part_value r q (slice_index cut q) false term
term_split r p q cut differ (Number n) names = omega (arith, ints)
term_split r p q cut differ (Variable x v) names =
    split_at (λ y. value_after r y (slice_index cut y) v) p q x differ names
term_split r p q cut differ (Times n x v) names =
    split_at (λ y. pos n *ℤ value_after r y (slice_index cut y) v) p q x differ names

pub sum_split : (r : Recorded) (p q : ℕ) (cut : List ℕ) → p ≢ q → (terms : List (Sign × Term)) → NamePair p q terms
    → sum_value (state_at r.initial r.events cut) terms
    ≡ parts_value r p (slice_index cut p) true terms +ℤ parts_value r q (slice_index cut q) false terms
sum_split r p q cut differ [] names = refl
sum_split r p q cut differ ((sign, term) ∷ rest) names =
    let later = sum_split r p q cut differ rest names.1 in
    let here = ap (signed sign) (term_split r p q cut differ term names.0)
    ∙ signed-add sign (part_value r p (slice_index cut p) true term)
    (part_value r q (slice_index cut q) false term) in
    omega (arith, ints, later, here)

-- a comparison by the rows of its two processes
pub by_rows : (r : Recorded) (p q : ℕ) → p < q → (left right : List (Sign × Term)) (comparison : Comparison)
    → NamePair p q left → NamePair p q right → (first second : List ℤ) → IsRowOf r p true left right first
    → IsRowOf r q false left right second
    → IsByCounts r p q (Compare left comparison right)
    (λ i j. compares comparison (number_at first i +ℤ number_at second j) (pos 0))
by_rows r p q order left right comparison left_names right_names first second p_row q_row cut fits =
    let i : ℕ = slice_index cut p in
    let j : ℕ = slice_index cut q in
    let differ : p ≢ q = λ same. omega (arith, order, same) in
    let l = sum_split r p q cut differ left left_names in
    let m = sum_split r p q cut differ right right_names in
    let x = p_row.adds i (fits.within p) in
    let y = q_row.adds j (fits.within q) in
    compares_difference comparison (sum_value (state_at r.initial r.events cut) left)
    (sum_value (state_at r.initial r.events cut) right) (number_at first i +ℤ number_at second j)
    (omega (arith, ints, l, m, x, y))
