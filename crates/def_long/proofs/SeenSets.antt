-- Whether a predicate sees the same can be decided, so the seen events are a set.
use Rattle.std.proofs.Common.{◌≡◌, ℕ, ◌+◌, ◌-◌, Bool, true, false, List, [], ◌∷◌, ℤ, refl, sym, ap, ◌∙◌, inl, inr, ◌⊎◌, arith}
use Rattle.std.proofs.lemmas.Bool.{false≢true, true≢false, cases_Bool}
use Rattle.std.proofs.lemmas.Bool.Decides.{Decides-int_eq}
use Rattle.std.specs.Ordering.{int_eq}
use Rattle.def_model.specs.Decided.{NameAlone}
use Rattle.def_model.specs.Predicates.{Sign, Term, Number, Variable, Times, Comparison, Predicate, Always, Never, Compare, Not, And, Or, Recorded, compares, sum_value}
use Rattle.def_model.proofs.Decisions.{dec_both, dec_eq}
use Rattle.def_long.specs.Laws.{SeenAreASet}
use Rattle.def_long.specs.Views.{HasSameTruth, HaveSameValues, SeesTheSame, value_after}

dec_bool : (a b : Bool) → Dec (a ≡ b)
dec_bool true true = yes refl
dec_bool false false = yes refl
dec_bool true false = no (λ e. true≢false e)
dec_bool false true = no (λ e. false≢true e)

dec_int : (x y : ℤ) → Dec (x ≡ y)
dec_int x y = go (cases_Bool (int_eq x y))
  where
    go : (int_eq x y ≡ true) ⊎ (int_eq x y ≡ false) → Dec (x ≡ y)
    go (inl yes') = yes ((Decides-int_eq x y).0 yes')
    go (inr no') = no (λ e. false≢true (sym no' ∙ (Decides-int_eq x y).1 e))

dec_if : {A B : Type 0} → Dec A → Dec B → Dec (A → B)
dec_if (no h) b = yes (λ a. absurd (h a))
dec_if (yes a) (yes b) = yes (λ x. b)
dec_if (yes a) (no h) = no (λ f. h (f a))

dec_either : {A B : Type 0} → Dec A → Dec B → Dec (A ⊎ B)
dec_either (yes a) b = yes (inl a)
dec_either (no h) (yes b) = yes (inr b)
dec_either {A} {B} (no h) (no k) = no none
  where
    none : A ⊎ B → ⊥
    none (inl a) = h a
    none (inr b) = k b

dec_alone : (p : ℕ) (sum : List (Sign × Term)) → Dec (NameAlone p sum)
dec_alone p [] = yes tt
dec_alone p ((sign, Number k) ∷ rest) = dec_both (yes tt) (dec_alone p rest)
dec_alone p ((sign, Variable q v) ∷ rest) = dec_both (dec_eq q p) (dec_alone p rest)
dec_alone p ((sign, Times k q v) ∷ rest) = dec_both (dec_eq q p) (dec_alone p rest)

module _ (r : Recorded) (p m n : ℕ) where
  dec_values : (sum : List (Sign × Term)) → Dec (HaveSameValues r p m n sum)
  dec_values [] = yes tt
  dec_values ((sign, Number k) ∷ rest) = dec_both (yes tt) (dec_values rest)
  dec_values ((sign, Variable q v) ∷ rest) =
      dec_both (dec_if (dec_eq q p) (dec_int (value_after r m q v) (value_after r n q v))) (dec_values rest)
  dec_values ((sign, Times k q v) ∷ rest) =
      dec_both (dec_if (dec_eq q p) (dec_int (value_after r m q v) (value_after r n q v))) (dec_values rest)

  dec_truth : (left : List (Sign × Term)) (comparison : Comparison) (right : List (Sign × Term))
      → Dec (HasSameTruth r p m n left comparison right)
  dec_truth left comparison right =
      go (dec_alone p left) (dec_alone p right)
      (dec_bool (compares comparison (sum_value (value_after r m) left) (sum_value (value_after r m) right))
      (compares comparison (sum_value (value_after r n) left) (sum_value (value_after r n) right)))
    where
      go : Dec (NameAlone p left) → Dec (NameAlone p right)
          → Dec (compares comparison (sum_value (value_after r m) left) (sum_value (value_after r m) right)
          ≡ compares comparison (sum_value (value_after r n) left) (sum_value (value_after r n) right))
          → Dec (HasSameTruth r p m n left comparison right)
      go (yes a) (yes b) (yes e) = yes (record { left_alone = a; right_alone = b; same = e })
      go (no h) b e = no (λ t. h t.left_alone)
      go (yes a) (no h) e = no (λ t. h t.right_alone)
      go (yes a) (yes b) (no h) = no (λ t. h t.same)

  dec_sees : (predicate : Predicate) → Dec (SeesTheSame r p m n predicate)
  dec_sees Always = yes tt
  dec_sees Never = yes tt
  dec_sees (Compare left comparison right) =
      dec_either (dec_truth left comparison right) (dec_both (dec_values left) (dec_values right))
  dec_sees (Not inner) = dec_sees inner
  dec_sees (And left right) = dec_both (dec_sees left) (dec_sees right)
  dec_sees (Or left right) = dec_both (dec_sees left) (dec_sees right)

-- ---- the set

is_no : {A : Type 0} → Dec A → Bool
is_no (yes a) = false
is_no (no h) = true

no_from_true : {A : Type 0} → (d : Dec A) → is_no d ≡ true → A → ⊥
unfolding is_no
no_from_true (yes b) t a = false≢true t
no_from_true (no h) t a = h a

true_from_no : {A : Type 0} → (d : Dec A) → (A → ⊥) → is_no d ≡ true
unfolding is_no
true_from_no (yes a) none = absurd (none a)
true_from_no (no h) none = refl

yes_from_false : {A : Type 0} → (d : Dec A) → is_no d ≡ false → A
unfolding is_no
yes_from_false (yes a) f = a
yes_from_false (no h) f = absurd (true≢false f)

pub seen_are_a_set : SeenAreASet
seen_are_a_set r predicate = (
  λ e. is_no (dec_sees r e.process (e.number - 1) (e.number - 1 + 1) predicate),
  λ p n lt. (to p n, from p n),
  λ p n lt. unseen p n,
)
  where
    back : (n : ℕ) → n + 1 - 1 ≡ n
    back n = omega arith

    -- the event after n events of its process
    same : (p n : ℕ) → is_no (dec_sees r p (n + 1 - 1) (n + 1 - 1 + 1) predicate)
        ≡ is_no (dec_sees r p n (n + 1) predicate)
    same p n = ap (λ (k : ℕ). is_no (dec_sees r p k (k + 1) predicate)) (back n)

    to : (p n : ℕ) → is_no (dec_sees r p (n + 1 - 1) (n + 1 - 1 + 1) predicate) ≡ true
        → SeesTheSame r p n (n + 1) predicate → ⊥
    to p n t = no_from_true (dec_sees r p n (n + 1) predicate) (sym (same p n) ∙ t)

    from : (p n : ℕ) → (SeesTheSame r p n (n + 1) predicate → ⊥)
        → is_no (dec_sees r p (n + 1 - 1) (n + 1 - 1 + 1) predicate) ≡ true
    from p n none = same p n ∙ true_from_no (dec_sees r p n (n + 1) predicate) none

    unseen : (p n : ℕ) → is_no (dec_sees r p (n + 1 - 1) (n + 1 - 1 + 1) predicate) ≡ false
        → SeesTheSame r p n (n + 1) predicate
    unseen p n f = yes_from_false (dec_sees r p n (n + 1) predicate) (sym (same p n) ∙ f)
