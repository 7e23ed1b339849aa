-- Sets of numbers that comparisons make.
use Rattle.std.proofs.Common.{◌≡◌, ◌∙◌, ap, sym, refl, arith, ℤ, pos, ◌+ℤ◌, ◌-ℤ◌, Bool, true, false, not, ◌||◌}
use Rattle.std.specs.Prelude.{◌≤ℤ◌, int_le, int_lt}
use Rattle.std.specs.Bool.{beq}
use Rattle.std.specs.Ordering.{int_eq}
use Rattle.std.proofs.lemmas.Int.{ints}
use Rattle.def_model.specs.Predicates as model
use Rattle.pd_pred.specs.declared.tree.Comparison.{Comparison}
use Rattle.pd_pred.specs.Trees.{comparison_view}
use Rattle.walk_tables.specs.Zero.{compares_with_zero, joined, turned}
use Rattle.walk_tables.proofs.Differences.{compares_difference}

pub below_again : (value at below : ℤ) (above has : Bool) → at ≤ℤ below
    → ((int_lt value below || above) || has) ≡ (int_lt value at || ((int_lt value below || above) || has))
below_again value at below above has le = grind (arith, ints)

pub below_more : (value at below : ℤ) (above has : Bool) → below ≤ℤ at
    → ((int_lt value at || above) || has) ≡ (int_lt value at || ((int_lt value below || above) || has))
below_more value at below above has le = grind (arith, ints)

pub above_again : (value at above : ℤ) (below has : Bool) → above ≤ℤ at
    → ((below || int_lt above value) || has) ≡ (int_lt at value || ((below || int_lt above value) || has))
above_again value at above below has le = grind (arith, ints)

pub above_more : (value at above : ℤ) (below has : Bool) → at ≤ℤ above
    → ((below || int_lt at value) || has) ≡ (int_lt at value || ((below || int_lt above value) || has))
above_more value at above below has le = grind (arith, ints)

equal_is : (value at : ℤ) → int_eq value at ≡ true → value ≡ at
equal_is value at is = grind (arith, ints)

-- a number that is in the set adds nothing
pub held_again : (holds : ℤ → Bool) (value at : ℤ) → holds at ≡ true → holds value ≡ (int_eq value at || holds value)
held_again holds value at is = go (int_eq value at) refl
  where
    go : (t : Bool) → int_eq value at ≡ t → holds value ≡ (t || holds value)
    go true same = ap holds (equal_is value at same) ∙ is
    go false other = refl

pub point_more : (below above equal has : Bool)
    → ((below || above) || (equal || has)) ≡ (equal || ((below || above) || has))
point_more true above true has = refl
point_more true above false has = refl
point_more false true true has = refl
point_more false true false has = refl
point_more false false equal has = refl

pub turned_joined : (is_and a b : Bool) → turned is_and (turned is_and a || b) ≡ joined is_and a (turned is_and b)
turned_joined true true b = refl
turned_joined true false b = refl
turned_joined false a b = refl

-- the numbers at which one comparison more holds
pub taken : (is_and : Bool) (comparison other : Comparison) (value at sum : ℤ) (before after : Bool)
    → ((a b : ℤ) → model.compares (comparison_view other) a b
    ≡ turned is_and (model.compares (comparison_view comparison) a b))
    → after ≡ (model.compares (comparison_view other) value at || before) → sum ≡ value -ℤ at
    → turned is_and after ≡ joined is_and (compares_with_zero comparison sum) (turned is_and before)
taken is_and comparison other value at sum before after law is difference =
    ap (turned is_and) (is ∙ ap (λ (t : Bool). t || before) (law value at))
    ∙ turned_joined is_and (model.compares (comparison_view comparison) value at) before
    ∙ ap (λ (t : Bool). joined is_and t (turned is_and before))
    (sym (compares_difference comparison value at sum difference))

pub turned_none : (is_and a : Bool) → joined is_and a (turned is_and false) ≡ a
turned_none true true = refl
turned_none true false = refl
turned_none false true = refl
turned_none false false = refl

pub unlike_turned : (truth is_and : Bool) → not (beq truth is_and) ≡ turned is_and truth
unlike_turned true true = refl
unlike_turned true false = refl
unlike_turned false true = refl
unlike_turned false false = refl

pub differs_is : (value at : ℤ) (rest : Bool)
    → (int_lt at value || (int_lt value at || rest)) ≡ (not (int_eq value at) || rest)
differs_is value at rest = grind (arith, ints)

pub at_most_is : (value at next : ℤ) (rest : Bool) → next ≡ at +ℤ pos 1
    → (int_lt value next || rest) ≡ (int_le value at || rest)
at_most_is value at next rest is = grind (arith, ints)

pub at_least_is : (value at last : ℤ) (rest : Bool) → last ≡ at -ℤ pos 1
    → (int_lt last value || rest) ≡ (int_le at value || rest)
at_least_is value at last rest is = grind (arith, ints)
