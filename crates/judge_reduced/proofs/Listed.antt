-- The events that lists of numbers name, and the events of the same ranks in other lists.
use Rattle.std.proofs.Common.{◌≡◌, ℕ, ◌<◌, ◌≤◌, ◌⊎◌, inl, inr, List, [], length, get_or, Contains, refl, sym, ap, ◌∙◌, subst, arith}
use Rattle.std.proofs.lemmas.Bool.{cases_eq, cases_lt, eqb-true, eq-eqb}
use Rattle.def_model.specs.Events.{Computation, IsEvent, Place, place}
use Rattle.def_model.specs.Cuts.{empty_cut}
use Rattle.def_model.proofs.Chains.{same_place}
use Rattle.def_model.proofs.Counts.{empty_at, full_at}
use Rattle.def_long.specs.Kept.{IsKept}
use Rattle.def_long.specs.Windows.{whole}
use Rattle.judge_reduced.specs.Planned.{AreListed}
use Rattle.def_orders.proofs.KeptImages.{image_in, is_listed, listed}
use Rattle.def_orders.proofs.Ranks.{contained_of_last, count_at, last_at, last_of_contained, last_up_to, ranked}

module _ (c : Computation) (numbers : List (List ℕ)) (are : AreListed c numbers) where
  pub listed_is_kept : (p i : ℕ) → i < length (get_or numbers p [])
      → IsKept (whole c) (is_listed numbers) (listed numbers p i)
  listed_is_kept p i within = record {
    is_kept = eq-eqb (last_up_to (get_or numbers p []) (get_or (get_or numbers p []) i 0))
        (get_or (get_or numbers p []) i 0) (last_at (get_or numbers p []) (are.ascend p) i within);
    after = λ there. let low : 1 ≤ get_or (get_or numbers p []) i 0 = there.0 in
        let high : get_or (get_or numbers p []) i 0 ≤ get_or (empty_cut c) p 0 = there.1 in
        let none : get_or (empty_cut c) p 0 ≡ 0 = empty_at c p in omega arith;
    before = let is : IsEvent c (listed numbers p i) = are.events p i 0 within in (is.0, rw full_at is.1);
  }

  -- what holds of the listed events holds of all that are kept
  pub of_listed : (P : Place → Type 0) → ((p i : ℕ) → i < length (get_or numbers p []) → P (listed numbers p i))
      → (e : Place) → IsKept (whole c) (is_listed numbers) e → P e
  of_listed P all e is = go (contained_of_last (get_or numbers e.process []) e.number is.before.0 last)
    where
      last : last_up_to (get_or numbers e.process []) e.number ≡ e.number
      last = eqb-true (last_up_to (get_or numbers e.process []) e.number) e.number is.is_kept

      go : (i : ℕ) × (i < length (get_or numbers e.process [])) × (get_or (get_or numbers e.process []) i 0 ≡ e.number)
          → P e
      go (i, within, at) = subst P (same_place (listed numbers e.process i) e refl at) (all e.process i within)

  -- an event is listed, or isn't
  pub cases_listed : (e : Place) → IsEvent c e
      → IsKept (whole c) (is_listed numbers) e ⊎ (Contains (get_or numbers e.process []) e.number → ⊥)
  cases_listed e is = go (cases_eq (last_up_to (get_or numbers e.process []) e.number) e.number)
    where
      kept : (i : ℕ) × (i < length (get_or numbers e.process []))
          × (get_or (get_or numbers e.process []) i 0 ≡ e.number) → IsKept (whole c) (is_listed numbers) e
      kept (i, within, at) =
          subst (IsKept (whole c) (is_listed numbers)) (same_place (listed numbers e.process i) e refl at)
          (listed_is_kept e.process i within)

      go : (last_up_to (get_or numbers e.process []) e.number ≡ e.number)
          ⊎ (last_up_to (get_or numbers e.process []) e.number ≡ e.number → ⊥)
          → IsKept (whole c) (is_listed numbers) e ⊎ (Contains (get_or numbers e.process []) e.number → ⊥)
      go (inl last) = inl (kept (contained_of_last (get_or numbers e.process []) e.number is.0 last))
      go (inr apart) =
          inr (λ has. apart (last_of_contained (get_or numbers e.process []) (are.ascend e.process) e.number has))

  -- of two listed events of a process the one of the lower number has the lower rank
  pub rank_of_earlier : (p i j : ℕ) → i < length (get_or numbers p []) → j < length (get_or numbers p [])
      → get_or (get_or numbers p []) i 0 < get_or (get_or numbers p []) j 0 → i < j
  rank_of_earlier p i j in_i in_j lt = go (cases_lt i j) (cases_lt j i)
    where
      go : (i < j) ⊎ (j ≤ i) → (j < i) ⊎ (i ≤ j) → i < j
      go (inl less) other = less
      go (inr ge) (inl more) =
          let back : get_or (get_or numbers p []) j 0 < get_or (get_or numbers p []) i 0 =
          are.ascend p j i 0 more in_i in
          absurd (omega arith)
      go (inr ge) (inr le) =
          let same : i ≡ j = omega arith in
          let at : get_or (get_or numbers p []) i 0 ≡ get_or (get_or numbers p []) j 0 =
          ap (λ (k : ℕ). get_or (get_or numbers p []) k 0) same in
          absurd (omega arith)

  -- a listed event has the image of its rank
  pub image_of_listed : (places : List (List ℕ)) (p i : ℕ) → i < length (get_or numbers p [])
      → image_in numbers places (listed numbers p i) ≡ listed places p i
  image_of_listed places p i within =
      ap (λ (k : ℕ). place p (ranked (get_or places p []) k)) (count_at (get_or numbers p []) (are.ascend p) i within)

-- ---- of two lists that name as many events

module _ (c c' : Computation) (numbers numbers' : List (List ℕ)) (are : AreListed c numbers)
    (are' : AreListed c' numbers')
    (as_many : (p : ℕ) → length (get_or numbers p []) ≡ length (get_or numbers' p [])) where
  pub in_other : (p i : ℕ) → i < length (get_or numbers p []) → i < length (get_or numbers' p [])
  in_other p i within = subst (λ (n : ℕ). i < n) (as_many p) within

  pub image_is_kept : (e : Place) → IsKept (whole c) (is_listed numbers) e
      → IsKept (whole c') (is_listed numbers') (image_in numbers numbers' e)
  image_is_kept =
      of_listed c numbers are (λ e. IsKept (whole c') (is_listed numbers') (image_in numbers numbers' e))
      (λ p i within. subst (IsKept (whole c') (is_listed numbers'))
      (sym (image_of_listed c numbers are numbers' p i within))
      (listed_is_kept c' numbers' are' p i (in_other p i within)))

  pub origin_of_image : (e : Place) → IsKept (whole c) (is_listed numbers) e
      → image_in numbers' numbers (image_in numbers numbers' e) ≡ e
  origin_of_image =
      of_listed c numbers are (λ e. image_in numbers' numbers (image_in numbers numbers' e) ≡ e)
      (λ p i within. ap (image_in numbers' numbers) (image_of_listed c numbers are numbers' p i within)
      ∙ image_of_listed c' numbers' are' numbers p i (in_other p i within))

  -- the image of a later event comes later
  pub same_turn : (e f : Place) → IsKept (whole c) (is_listed numbers) e → IsKept (whole c) (is_listed numbers) f
      → e.process ≡ f.process → e.number < f.number
      → (image_in numbers numbers' e).number < (image_in numbers numbers' f).number
  same_turn e f is_e is_f =
      of_listed c numbers are
      (λ x. x.process ≡ f.process → x.number < f.number
      → (image_in numbers numbers' x).number < (image_in numbers numbers' f).number)
      (λ p i in_p. of_listed c numbers are
      (λ y. p ≡ y.process → get_or (get_or numbers p []) i 0 < y.number
      → (image_in numbers numbers' (listed numbers p i)).number < (image_in numbers numbers' y).number)
      (λ q j in_q same lt. turn p i q j in_p in_q same lt) f is_f) e is_e
    where
      turn_here : (p i j : ℕ) → i < length (get_or numbers p []) → j < length (get_or numbers p [])
          → get_or (get_or numbers p []) i 0 < get_or (get_or numbers p []) j 0
          → (image_in numbers numbers' (listed numbers p i)).number
          < (image_in numbers numbers' (listed numbers p j)).number
      turn_here p i j in_i in_j lt =
          subst (λ (x : Place). x.number < (image_in numbers numbers' (listed numbers p j)).number)
          (sym (image_of_listed c numbers are numbers' p i in_i))
          (subst (λ (y : Place). get_or (get_or numbers' p []) i 0 < y.number)
          (sym (image_of_listed c numbers are numbers' p j in_j))
          (are'.ascend p i j 0 (rank_of_earlier c numbers are p i j in_i in_j lt) (in_other p j in_j)))

      turn : (p i q j : ℕ) → i < length (get_or numbers p []) → j < length (get_or numbers q []) → p ≡ q
          → get_or (get_or numbers p []) i 0 < get_or (get_or numbers q []) j 0
          → (image_in numbers numbers' (listed numbers p i)).number
          < (image_in numbers numbers' (listed numbers q j)).number
      turn p i q j in_p in_q same =
          subst (λ (s : ℕ). j < length (get_or numbers s [])
          → get_or (get_or numbers p []) i 0 < get_or (get_or numbers s []) j 0
          → (image_in numbers numbers' (listed numbers p i)).number
          < (image_in numbers numbers' (listed numbers s j)).number) same
          (λ in_s lt. turn_here p i j in_p in_s lt) in_q
