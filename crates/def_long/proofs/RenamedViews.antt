-- What is seen of each process shows that a window of another recording is a reduction.
use Rattle.std.proofs.Common.{◌≡◌, ℕ, ◌≤◌, Bool, not, ◌&&◌, ◌||◌, List, [], ◌∷◌, get_or, ℤ, pos, ◌+ℤ◌, ◌*ℤ◌, refl, sym, ap, ap₂, ◌∙◌, subst, inl, inr, ◌⊎◌, ◌↔◌}
use Rattle.def_model.specs.Events.{Place, place}
use Rattle.def_model.specs.Cuts.{Includes}
use Rattle.def_model.specs.Decided.{NameAlone}
use Rattle.def_model.specs.Predicates.{Sign, Term, Number, Variable, Times, Comparison, Predicate, Always, Never, Compare, Not, And, Or, Recorded, compares, holds_at, signed, state_at, sum_value, test_of}
use Rattle.def_long.specs.Kept.{IsKept}
use Rattle.def_long.specs.Laws.{SameViewsReduce}
use Rattle.def_long.specs.Renamed.{HasTruthOf, HaveValuesOf, Names, SeesTheSameIn, renamed, renamed_sum}
use Rattle.def_long.specs.Windows.{window, IsCutIn}
use Rattle.def_long.proofs.SameViews.{alone_value}

pub renamed_alone : (names : Names) (p : ℕ) (sum : List (Sign × Term)) → NameAlone p sum
    → NameAlone (names.process p) (renamed_sum names sum)
renamed_alone names p [] alone = tt
renamed_alone names p ((sign, Number k) ∷ rest) alone = (tt, renamed_alone names p rest alone.1)
renamed_alone names p ((sign, Variable q v) ∷ rest) alone =
    (ap names.process alone.0, renamed_alone names p rest alone.1)
renamed_alone names p ((sign, Times k q v) ∷ rest) alone =
    (ap names.process alone.0, renamed_alone names p rest alone.1)

module _ (r r' : Recorded) (names : Names) (cut cut' : List ℕ) where
  abbrev State : ℕ → ℕ → ℤ
  State = state_at r.initial r.events cut

  abbrev State' : ℕ → ℕ → ℤ
  State' = state_at r'.initial r'.events cut'

  -- a sum has the same value, unless something else is known
  same_sum : (G : Type 0) (sum : List (Sign × Term))
      → ((p : ℕ) → G ⊎ HaveValuesOf r (get_or cut p 0) r' (get_or cut' (names.process p) 0) names p sum)
      → G ⊎ (sum_value State sum ≡ sum_value State' (renamed_sum names sum))
  same_sum G [] sees = inr refl
  same_sum G ((sign, Number k) ∷ rest) sees = go (same_sum G rest (λ p. others p (sees p)))
    where
      others : (p : ℕ) → G ⊎ HaveValuesOf r (get_or cut p 0) r' (get_or cut' (names.process p) 0) names p
          ((sign, Number k) ∷ rest)
          → G ⊎ HaveValuesOf r (get_or cut p 0) r' (get_or cut' (names.process p) 0) names p rest
      others p (inl known) = inl known
      others p (inr have) = inr have.1

      go : G ⊎ (sum_value State rest ≡ sum_value State' (renamed_sum names rest))
          → G ⊎ (sum_value State ((sign, Number k) ∷ rest)
          ≡ sum_value State' (renamed_sum names ((sign, Number k) ∷ rest)))
      go (inl known) = inl known
      go (inr same) = inr (ap (λ (z : ℤ). signed sign (pos k) +ℤ z) same)
  same_sum G ((sign, Variable q v) ∷ rest) sees = go (sees q) (same_sum G rest (λ p. others p (sees p)))
    where
      others : (p : ℕ) → G ⊎ HaveValuesOf r (get_or cut p 0) r' (get_or cut' (names.process p) 0) names p
          ((sign, Variable q v) ∷ rest)
          → G ⊎ HaveValuesOf r (get_or cut p 0) r' (get_or cut' (names.process p) 0) names p rest
      others p (inl known) = inl known
      others p (inr have) = inr have.1

      go : G ⊎ HaveValuesOf r (get_or cut q 0) r' (get_or cut' (names.process q) 0) names q
          ((sign, Variable q v) ∷ rest)
          → G ⊎ (sum_value State rest ≡ sum_value State' (renamed_sum names rest))
          → G ⊎ (sum_value State ((sign, Variable q v) ∷ rest)
          ≡ sum_value State' (renamed_sum names ((sign, Variable q v) ∷ rest)))
      go (inl known) other = inl known
      go (inr have) (inl known) = inl known
      go (inr have) (inr same) = inr (ap₂ (λ (y z : ℤ). signed sign y +ℤ z) (have.0 refl) same)
  same_sum G ((sign, Times k q v) ∷ rest) sees = go (sees q) (same_sum G rest (λ p. others p (sees p)))
    where
      others : (p : ℕ) → G ⊎ HaveValuesOf r (get_or cut p 0) r' (get_or cut' (names.process p) 0) names p
          ((sign, Times k q v) ∷ rest)
          → G ⊎ HaveValuesOf r (get_or cut p 0) r' (get_or cut' (names.process p) 0) names p rest
      others p (inl known) = inl known
      others p (inr have) = inr have.1

      go : G ⊎ HaveValuesOf r (get_or cut q 0) r' (get_or cut' (names.process q) 0) names q
          ((sign, Times k q v) ∷ rest)
          → G ⊎ (sum_value State rest ≡ sum_value State' (renamed_sum names rest))
          → G ⊎ (sum_value State ((sign, Times k q v) ∷ rest)
          ≡ sum_value State' (renamed_sum names ((sign, Times k q v) ∷ rest)))
      go (inl known) other = inl known
      go (inr have) (inl known) = inl known
      go (inr have) (inr same) = inr (ap₂ (λ (y z : ℤ). signed sign (pos k *ℤ y) +ℤ z) (have.0 refl) same)

  -- a comparison has the same truth
  abbrev IsSame : List (Sign × Term) → Comparison → List (Sign × Term) → Type 0
  IsSame left comparison right =
      compares comparison (sum_value State left) (sum_value State right)
      ≡ compares comparison (sum_value State' (renamed_sum names left)) (sum_value State' (renamed_sum names right))

  -- one of one process has
  same_alone : (p : ℕ) (left : List (Sign × Term)) (comparison : Comparison) (right : List (Sign × Term))
      → HasTruthOf r (get_or cut p 0) r' (get_or cut' (names.process p) 0) names p left comparison right
      → IsSame left comparison right
  same_alone p left comparison right truth =
      ap₂ (compares comparison) (alone_value r cut (get_or cut p 0) p left refl truth.left_alone)
      (alone_value r cut (get_or cut p 0) p right refl truth.right_alone)
      ∙ (truth.same
      ∙ sym (ap₂ (compares comparison)
      (alone_value r' cut' (get_or cut' (names.process p) 0) (names.process p) (renamed_sum names left) refl
      (renamed_alone names p left truth.left_alone))
      (alone_value r' cut' (get_or cut' (names.process p) 0) (names.process p) (renamed_sum names right) refl
      (renamed_alone names p right truth.right_alone))))

  same_holds : (predicate : Predicate)
      → ((p : ℕ) → SeesTheSameIn r (get_or cut p 0) r' (get_or cut' (names.process p) 0) names p predicate)
      → holds_at State predicate ≡ holds_at State' (renamed names predicate)
  same_holds Always sees = refl
  same_holds Never sees = refl
  same_holds (Compare left comparison right) sees =
      go (same_sum (IsSame left comparison right) left (λ p. lefts p (sees p)))
      (same_sum (IsSame left comparison right) right (λ p. rights p (sees p)))
    where
      lefts : (p : ℕ)
          → SeesTheSameIn r (get_or cut p 0) r' (get_or cut' (names.process p) 0) names p
          (Compare left comparison right)
          → IsSame left comparison right
          ⊎ HaveValuesOf r (get_or cut p 0) r' (get_or cut' (names.process p) 0) names p left
      lefts p (inl truth) = inl (same_alone p left comparison right truth)
      lefts p (inr have) = inr have.0

      rights : (p : ℕ)
          → SeesTheSameIn r (get_or cut p 0) r' (get_or cut' (names.process p) 0) names p
          (Compare left comparison right)
          → IsSame left comparison right
          ⊎ HaveValuesOf r (get_or cut p 0) r' (get_or cut' (names.process p) 0) names p right
      rights p (inl truth) = inl (same_alone p left comparison right truth)
      rights p (inr have) = inr have.1

      go : IsSame left comparison right ⊎ (sum_value State left ≡ sum_value State' (renamed_sum names left))
          → IsSame left comparison right ⊎ (sum_value State right ≡ sum_value State' (renamed_sum names right))
          → IsSame left comparison right
      go (inl known) other = known
      go (inr left_same) (inl known) = known
      go (inr left_same) (inr right_same) = ap₂ (compares comparison) left_same right_same
  same_holds (Not inner) sees = ap not (same_holds inner sees)
  same_holds (And left right) sees =
      ap₂ (λ (a b : Bool). a && b) (same_holds left (λ p. (sees p).0)) (same_holds right (λ p. (sees p).1))
  same_holds (Or left right) sees =
      ap₂ (λ (a b : Bool). a || b) (same_holds left (λ p. (sees p).0)) (same_holds right (λ p. (sees p).1))

pub same_views_reduce : SameViewsReduce
same_views_reduce r r' predicate names from to from' to' kept kept' events processes sees = record {
  events = events;
  same_truth = truth;
}
  where
    truth : (cut cut' : List ℕ) → IsCutIn (window r.events from to) cut → IsCutIn (window r'.events from' to') cut'
        → ((e : Place) → IsKept (window r.events from to) kept e → Includes cut e ↔ Includes cut' (events.image e))
        → test_of r predicate cut ≡ test_of r' (renamed names predicate) cut'
    truth cut cut' in_w in' agree =
        same_holds r r' names cut cut' predicate (λ p. sees p (get_or cut p 0) (get_or cut' (names.process p) 0)
        (record {
          low = in_w.above p;
          high = in_w.below p;
          low' = in'.above (names.process p);
          high' = in'.below (names.process p);
          same = λ k is_kept. (to_image p k is_kept, from_image p k is_kept);
        }))
      where
        to_image : (p k : ℕ) → IsKept (window r.events from to) kept (place p k) → k ≤ get_or cut p 0
            → (events.image (place p k)).number ≤ get_or cut' (names.process p) 0
        to_image p k is_kept few =
            let i : Includes cut' (events.image (place p k)) =
            (agree (place p k) is_kept).0 (is_kept.before.0, few) in
            subst (λ (q : ℕ). (events.image (place p k)).number ≤ get_or cut' q 0) (processes (place p k) is_kept) i.1

        from_image : (p k : ℕ) → IsKept (window r.events from to) kept (place p k)
            → (events.image (place p k)).number ≤ get_or cut' (names.process p) 0 → k ≤ get_or cut p 0
        from_image p k is_kept few =
            let there : IsKept (window r'.events from' to') kept' (events.image (place p k)) =
            events.image_kept (place p k) is_kept in
            let i : Includes cut (place p k) =
            (agree (place p k) is_kept).1 (
              there.before.0,
              subst (λ (q : ℕ). (events.image (place p k)).number ≤ get_or cut' q 0)
                  (sym (processes (place p k) is_kept)) few,
            ) in
            i.1
