-- The kept events decide if a predicate sees no others.
use Rattle.std.proofs.Common.{◌≡◌, ℕ, ◌+◌, ◌<◌, ◌≤◌, Bool, not, ◌&&◌, ◌||◌, List, [], ◌∷◌, length, get_or, take, ℤ, pos, ◌+ℤ◌, ◌*ℤ◌, refl, sym, ap, ap₂, ◌∙◌, subst, inl, inr, ◌⊎◌, ◌↔◌, arith}
use Rattle.std.specs.Prelude.{slice_get, slice_index_or}
use Rattle.std.proofs.lemmas.Bool.{cases_eq}
use Rattle.def_model.specs.Events.{Place, event_count, events_of}
use Rattle.def_model.specs.Cuts.{empty_cut, full_cut, one_more}
use Rattle.def_model.specs.Decided.{NameAlone}
use Rattle.def_model.specs.Predicates.{Sign, Term, Number, Variable, Times, Predicate, Always, Never, Compare, Not, And, Or, Recorded, compares, holds_at, last_set_if_there, signed, state_at, sum_value, test_of}
use Rattle.def_model.proofs.Counts.{more_other, more_same}
use Rattle.def_model.specs.Observations.{Possibly}
use Rattle.def_long.specs.Kept.{DownSetSatisfies, IsDownSet}
use Rattle.def_long.specs.Laws.{DefinitelyOfSeen, PossiblyOfSeen, SeenDecide}
use Rattle.def_long.specs.Windows.{PossiblyIn, whole}
use Rattle.def_long.proofs.Definite.{definitely_by_extensions}
use Rattle.def_long.proofs.Truths.{possibly_by_down_sets}
use Rattle.def_long.proofs.WindowCuts.{possibly_in_whole, run_is_window}
use Rattle.def_long.specs.Views.{value_after, HaveSameValues, SeesTheSame}

-- the state of a process at a cut is that after the counted events
state_is : (r : Recorded) (cut : List ℕ) (n p v : ℕ) → get_or cut p 0 ≡ n
    → state_at r.initial r.events cut p v ≡ value_after r n p v
state_is r cut n p v count =
    ap (λ (k : ℕ).
    last_set_if_there v (slice_get (slice_index_or r.initial p []) v) (take k (events_of r.events p))) count

-- ---- a sum of one process

pub alone_value : (r : Recorded) (cut : List ℕ) (n p : ℕ) (sum : List (Sign × Term)) → get_or cut p 0 ≡ n
    → NameAlone p sum → sum_value (state_at r.initial r.events cut) sum ≡ sum_value (value_after r n) sum
alone_value r cut n p [] count names = refl
alone_value r cut n p ((sign, Number k) ∷ rest) count names =
    ap (λ (z : ℤ). signed sign (pos k) +ℤ z) (alone_value r cut n p rest count names.1)
alone_value r cut n p ((sign, Variable q v) ∷ rest) count names =
    ap₂ (λ (y z : ℤ). signed sign y +ℤ z)
    (state_is r cut n q v (subst (λ (x : ℕ). get_or cut x 0 ≡ n) (sym names.0) count))
    (alone_value r cut n p rest count names.1)
alone_value r cut n p ((sign, Times k q v) ∷ rest) count names =
    ap₂ (λ (y z : ℤ). signed sign (pos k *ℤ y) +ℤ z)
    (state_is r cut n q v (subst (λ (x : ℕ). get_or cut x 0 ≡ n) (sym names.0) count))
    (alone_value r cut n p rest count names.1)

module _ (r : Recorded) (cut : List ℕ) (p : ℕ) (there : p < length cut) where
  here : get_or (one_more cut p) p 0 ≡ get_or cut p 0 + 1
  here = more_same cut p there

  -- ---- values that stay

  same_state : (q v : ℕ)
      → (q ≡ p → value_after r (get_or cut p 0) q v ≡ value_after r (get_or cut p 0 + 1) q v)
      → state_at r.initial r.events (one_more cut p) q v ≡ state_at r.initial r.events cut q v
  same_state q v same = go (cases_eq q p)
    where
      go : (q ≡ p) ⊎ (q ≡ p → ⊥)
          → state_at r.initial r.events (one_more cut p) q v ≡ state_at r.initial r.events cut q v
      go (inl at) =
          state_is r (one_more cut p) (get_or cut p 0 + 1) q v
          (subst (λ (x : ℕ). get_or (one_more cut p) x 0 ≡ get_or cut p 0 + 1) (sym at) here)
          ∙ (sym (same at)
          ∙ sym (state_is r cut (get_or cut p 0) q v (ap (λ (x : ℕ). get_or cut x 0) at)))
      go (inr apart) = state_is r (one_more cut p) (get_or cut q 0) q v (more_other cut p q apart)

  same_values : (sum : List (Sign × Term)) → HaveSameValues r p (get_or cut p 0) (get_or cut p 0 + 1) sum
      → sum_value (state_at r.initial r.events (one_more cut p)) sum
      ≡ sum_value (state_at r.initial r.events cut) sum
  same_values [] same = refl
  same_values ((sign, Number k) ∷ rest) same =
      ap (λ (z : ℤ). signed sign (pos k) +ℤ z) (same_values rest same.1)
  same_values ((sign, Variable q v) ∷ rest) same =
      ap₂ (λ (y z : ℤ). signed sign y +ℤ z) (same_state q v same.0) (same_values rest same.1)
  same_values ((sign, Times k q v) ∷ rest) same =
      ap₂ (λ (y z : ℤ). signed sign (pos k *ℤ y) +ℤ z) (same_state q v same.0) (same_values rest same.1)

  -- ---- the predicate

  same_holds : (predicate : Predicate) → SeesTheSame r p (get_or cut p 0) (get_or cut p 0 + 1) predicate
      → holds_at (state_at r.initial r.events (one_more cut p)) predicate
      ≡ holds_at (state_at r.initial r.events cut) predicate
  same_holds Always same = refl
  same_holds Never same = refl
  same_holds (Compare left comparison right) (inl same) =
      ap₂ (compares comparison) (alone_value r (one_more cut p) (get_or cut p 0 + 1) p left here same.left_alone)
      (alone_value r (one_more cut p) (get_or cut p 0 + 1) p right here same.right_alone)
      ∙ (sym same.same
      ∙ sym (ap₂ (compares comparison) (alone_value r cut (get_or cut p 0) p left refl same.left_alone)
      (alone_value r cut (get_or cut p 0) p right refl same.right_alone)))
  same_holds (Compare left comparison right) (inr same) =
      ap₂ (compares comparison) (same_values left same.0) (same_values right same.1)
  same_holds (Not inner) same = ap not (same_holds inner same)
  same_holds (And left right) same =
      ap₂ (λ (a b : Bool). a && b) (same_holds left same.0) (same_holds right same.1)
  same_holds (Or left right) same =
      ap₂ (λ (a b : Bool). a || b) (same_holds left same.0) (same_holds right same.1)

pub seen_decide : SeenDecide
seen_decide r predicate kept from to unseen cut p there before after out =
    same_holds r cut p there predicate (unseen p (get_or cut p 0) room out)
  where
    room : get_or cut p 0 < event_count r.events p
    room =
        let more : get_or (one_more cut p) p 0 ≡ get_or cut p 0 + 1 = more_same cut p there in
        let within : get_or (one_more cut p) p 0 ≤ event_count r.events p = after.consistent.fits.within p in
        omega arith

pub possibly_of_seen : PossiblyOfSeen
possibly_of_seen r predicate kept acyclic unseen = (λ h. kept_alone.0 (run.0 h), λ h. run.1 (kept_alone.1 h))
  where
    run : Possibly r.events (test_of r predicate) ↔ PossiblyIn (whole r.events) (test_of r predicate)
    run = possibly_in_whole r.events (test_of r predicate)

    kept_alone : PossiblyIn (whole r.events) (test_of r predicate)
        ↔ ((part : Place → Bool) × IsDownSet (whole r.events) kept part
        × DownSetSatisfies (whole r.events) (test_of r predicate) part)
    kept_alone =
        possibly_by_down_sets (whole r.events) (run_is_window r.events acyclic) kept (test_of r predicate)
        (seen_decide r predicate kept (empty_cut r.events) (full_cut r.events) unseen)

pub definitely_of_seen : DefinitelyOfSeen
definitely_of_seen r predicate kept acyclic unseen =
    definitely_by_extensions (whole r.events) (run_is_window r.events acyclic) kept (test_of r predicate)
    (seen_decide r predicate kept (empty_cut r.events) (full_cut r.events) unseen)
