-- A sum is its numbers and what each process adds.
use Rattle.std.proofs.Common.{◌≡◌, ℕ, zero, suc, ◌<◌, List, [], ◌∷◌, refl, ap, ◌∙◌, cond, nat_eq, nat_lt, ℤ, pos, ◌+ℤ◌, ◌-ℤ◌, arith}
use Rattle.std.proofs.lemmas.Int.{ints}
use Rattle.std.proofs.lemmas.Bool.Decides.{nat_tests}
use Rattle.def_model.specs.Predicates as model
use Rattle.def_model.specs.Predicates.{Sign, Plus, Minus, Term, Number, Variable, Times, signed, sum_value, term_value}
use Rattle.pd_pred.specs.declared.tree.Comparison.{Comparison}
use Rattle.pd_pred.specs.declared.tree.Comparison.TheVariants.{Equals, Differs, IsLess, IsAtMost, IsGreater, IsAtLeast}
use Rattle.pd_pred.specs.Trees.{comparison_view}
use Rattle.walk_tables.specs.Parts.{SpeakBelow, SpeaksBelow, number_value, numbers_value, part_value, parts_below}
use Rattle.walk_tables.specs.Zero.{compares_with_zero}
use Rattle.walk_tables.proofs.Sums.{signed-add}

-- two numbers compare as their difference does with 0
pub compares_difference : (comparison : Comparison) (a b d : ℤ) → d ≡ a -ℤ b
    → compares_with_zero comparison d ≡ model.compares (comparison_view comparison) a b
compares_difference Equals a b d is = grind (arith, ints)
compares_difference Differs a b d is = grind (arith, ints)
compares_difference IsLess a b d is = grind (arith, ints)
compares_difference IsAtMost a b d is = grind (arith, ints)
compares_difference IsGreater a b d is = grind (arith, ints)
compares_difference IsAtLeast a b d is = grind (arith, ints)

-- the value of a term that speaks of a process below p, and 0 for other terms
abbrev below_value : (ℕ → ℕ → ℤ) → ℕ → Term → ℤ
below_value state zero term = pos 0
below_value state (suc p) term = below_value state p term +ℤ part_value state p term

below_step : (q p : ℕ) (v : ℤ)
    → cond (nat_lt q p) v (pos 0) +ℤ cond (nat_eq q p) v (pos 0) ≡ cond (nat_lt q (suc p)) v (pos 0)
below_step q p v = grind (arith, nat_tests, ints)

variable_below : (state : ℕ → ℕ → ℤ) (p q v : ℕ)
    → below_value state p (Variable q v) ≡ cond (nat_lt q p) (term_value state (Variable q v)) (pos 0)
variable_below state zero q v = grind (arith, nat_tests)
variable_below state (suc p) q v =
    ap (λ (z : ℤ). z +ℤ part_value state p (Variable q v)) (variable_below state p q v)
    ∙ below_step q p (term_value state (Variable q v))

times_below : (state : ℕ → ℕ → ℤ) (p n q v : ℕ)
    → below_value state p (Times n q v) ≡ cond (nat_lt q p) (term_value state (Times n q v)) (pos 0)
times_below state zero n q v = grind (arith, nat_tests)
times_below state (suc p) n q v =
    ap (λ (z : ℤ). z +ℤ part_value state p (Times n q v)) (times_below state p n q v)
    ∙ below_step q p (term_value state (Times n q v))

number_below : (state : ℕ → ℕ → ℤ) (p n : ℕ) → below_value state p (Number n) ≡ pos 0
number_below state zero n = refl
number_below state (suc p) n = ap (λ (z : ℤ). z +ℤ pos 0) (number_below state p n)

below_true : (q p : ℕ) (v : ℤ) → q < p → cond (nat_lt q p) v (pos 0) ≡ v
below_true q p v lt = grind (arith, nat_tests)

term_split : (state : ℕ → ℕ → ℤ) (p : ℕ) (term : Term) → SpeaksBelow p term
    → term_value state term ≡ number_value term +ℤ below_value state p term
term_split state p (Number n) below = omega (arith, ints, number_below state p n)
term_split state p (Variable q v) below =
    omega (arith, ints, variable_below state p q v, below_true q p (term_value state (Variable q v)) below)
term_split state p (Times n q v) below =
    let value : ℤ = term_value state (Times n q v) in
    times_split value (below_value state p (Times n q v))
    (times_below state p n q v ∙ below_true q p (term_value state (Times n q v)) below)
  where
    times_split : (value below : ℤ) → below ≡ value → value ≡ pos 0 +ℤ below
    times_split value below is = omega (arith, ints)

below_cons : (state : ℕ → ℕ → ℤ) (p : ℕ) (sign : Sign) (term : Term) (rest : List (Sign × Term))
    → parts_below state p ((sign, term) ∷ rest)
    ≡ signed sign (below_value state p term) +ℤ parts_below state p rest
below_cons state zero Plus term rest = refl
below_cons state zero Minus term rest = refl
below_cons state (suc p) sign term rest =
    let earlier = below_cons state p sign term rest in
    let added = signed-add sign (below_value state p term) (part_value state p term) in
    omega (arith, ints, earlier, added)

pub sum_split : (state : ℕ → ℕ → ℤ) (p : ℕ) (terms : List (Sign × Term)) → SpeakBelow p terms
    → sum_value state terms ≡ numbers_value terms +ℤ parts_below state p terms
sum_split state p [] below = none p
  where
    none : (p : ℕ) → pos 0 ≡ pos 0 +ℤ parts_below state p []
    none zero = refl
    none (suc p) = omega (arith, ints, none p)
sum_split state p ((sign, term) ∷ rest) below =
    let later = sum_split state p rest below.1 in
    let here = ap (signed sign) (term_split state p term below.0)
    ∙ signed-add sign (number_value term) (below_value state p term) in
    let parts = below_cons state p sign term rest in
    omega (arith, ints, later, here, parts)
