-- Where two runs of which the same is seen have come equally far, the named variables have the same values.
use Rattle.std.proofs.Common.{◌≡◌, ℕ, zero, suc, ◌+◌, ◌<◌, ◌≤◌, List, [], length, get_or, ℤ, pos, Contains, sym, ap, ◌∙◌, subst, inl, inr, ◌⊎◌, ◌↔◌, arith, add-one}
use Rattle.std.proofs.lemmas.Bool.{cases_eq, cases_lt}
use Rattle.std.proofs.lemmas.List.{get_or-map}
use Rattle.def_model.specs.Events.{Place, IsEvent, event_count, place}
use Rattle.def_model.specs.Predicates.{Recorded}
use Rattle.def_model.proofs.Counts.{full_at}
use Rattle.def_long.specs.Renamed.{AreEquallyFar, Names}
use Rattle.def_long.specs.Views.{value_after}
use Rattle.def_long.specs.Windows.{whole}
use Rattle.def_orders.specs.Orders.{AreKept, count_up_to, values_after}
use Rattle.def_orders.proofs.Alike.{AreAlike, AreWorthTheSame}
use Rattle.def_orders.proofs.KeptImages.{image_at, image_of_listed, is_listed, listed_is_kept}
use Rattle.def_orders.proofs.Ranks.{count_of_other, count_within, first_ones, last_of_contained, last_up_to, ranked, same_counts}

-- ---- the values after the last kept event stay

module _ (r : Recorded) (p : ℕ) (vars numbers : List ℕ) (kept : AreKept r p vars numbers) where
  none_at_first : count_up_to numbers 0 ≡ 0
  none_at_first = go (cases_lt 0 (count_up_to numbers 0))
    where
      go : (0 < count_up_to numbers 0) ⊎ (count_up_to numbers 0 ≤ 0) → count_up_to numbers 0 ≡ 0
      go (inr none) = omega arith
      go (inl some) =
          let few : count_up_to numbers 0 ≤ length numbers = count_within numbers 0 in
          let le : get_or numbers 0 0 ≤ 0 = (first_ones numbers kept.ascend 0 0 (omega arith)).1 some in
          let is : IsEvent r.events (place p (get_or numbers 0 0)) = kept.events 0 0 (omega arith) in
          let low : 1 ≤ get_or numbers 0 0 = is.0 in absurd (omega arith)

  -- one event more
  values_of_next : (m : ℕ) → m < event_count r.events p
      → values_after r p vars m ≡ values_after r p vars (last_up_to numbers m)
      → values_after r p vars (m + 1) ≡ values_after r p vars (last_up_to numbers (m + 1))
  values_of_next m room before = go (cases_eq (last_up_to numbers (m + 1)) (m + 1))
    where
      go : (last_up_to numbers (m + 1) ≡ m + 1) ⊎ (last_up_to numbers (m + 1) ≡ m + 1 → ⊥)
          → values_after r p vars (m + 1) ≡ values_after r p vars (last_up_to numbers (m + 1))
      go (inl at) = sym (ap (values_after r p vars) at)
      go (inr apart) =
          let out : Contains numbers (m + 1) → ⊥ =
          λ is. apart (last_of_contained numbers kept.ascend (m + 1) is) in
          sym (kept.others m room out)
          ∙ (before ∙ ap (λ (k : ℕ). values_after r p vars (ranked numbers k))
          (count_of_other numbers kept.ascend m out))

  pub values_of_last : (m : ℕ) → m ≤ event_count r.events p
      → values_after r p vars m ≡ values_after r p vars (last_up_to numbers m)
  values_of_last zero few = sym (ap (λ (k : ℕ). values_after r p vars (ranked numbers k)) none_at_first)
  values_of_last (suc m) few =
      subst (λ (n : ℕ). values_after r p vars n ≡ values_after r p vars (last_up_to numbers n)) (add-one m)
      (values_of_next m (omega arith) (values_of_last m (omega arith)))

-- ---- where both have come equally far

-- the names of a predicate that has other numbers for its processes
abbrev pub named_at : (to : ℕ → ℕ) → Names
named_at to = record { process = to; variable = λ p v. v }

-- process p has come equally far after m events in one run as the process at its place after n in the other
abbrev pub AreFar : (r r' : Recorded) (to : ℕ → ℕ) (numbers numbers' : List (List ℕ)) → ℕ → ℕ → ℕ → Type 0
AreFar r r' to numbers numbers' p m n =
    AreEquallyFar (whole r.events) (is_listed numbers) (whole r'.events) (named_at to) (image_at to numbers numbers')
    p m n

module _ (r r' : Recorded) (to from : ℕ → ℕ) (named named' numbers numbers' : List (List ℕ))
    (alike : AreAlike r r' to from named named' numbers numbers')
    (worth : AreWorthTheSame r r' to named named' numbers numbers') (p m n : ℕ)
    (far : AreFar r r' to numbers numbers' p m n) where
  abbrev Numbers : List ℕ
  Numbers = get_or numbers p []

  abbrev Numbers' : List ℕ
  Numbers' = get_or numbers' (to p) []

  abbrev Vars : List ℕ
  Vars = get_or named p []

  kept : AreKept r p Vars Numbers
  kept = alike.kept p

  kept' : AreKept r' (to p) Vars Numbers'
  kept' = subst (λ (vars : List ℕ). AreKept r' (to p) vars Numbers') (worth.same_names p) (alike.kept' (to p))

  listed_far : (i : ℕ) → i < length Numbers → (get_or Numbers i 0 ≤ m) ↔ (get_or Numbers' i 0 ≤ n)
  listed_far i within =
      subst (λ (x : Place). (get_or Numbers i 0 ≤ m) ↔ (x.number ≤ n))
      (image_of_listed r r' to from named named' numbers numbers' alike p i within)
      (far.same (get_or Numbers i 0) (listed_is_kept r r' to from named named' numbers numbers' alike p i within))

  same_rank : count_up_to Numbers m ≡ count_up_to Numbers' n
  same_rank =
      same_counts (length Numbers) (count_up_to Numbers m) (count_up_to Numbers' n) (count_within Numbers m)
      (let few : count_up_to Numbers' n ≤ length Numbers' = count_within Numbers' n in
      let many : length Numbers ≡ length Numbers' = alike.as_many p in omega arith)
      (λ i within. (onward i within, back i within))
    where
      within_other : (i : ℕ) → i < length Numbers → i < length Numbers'
      within_other i within = subst (λ (k : ℕ). i < k) (alike.as_many p) within

      onward : (i : ℕ) → i < length Numbers → i < count_up_to Numbers m → i < count_up_to Numbers' n
      onward i within low =
          (first_ones Numbers' kept'.ascend n i (within_other i within)).0
          ((listed_far i within).0 ((first_ones Numbers kept.ascend m i within).1 low))

      back : (i : ℕ) → i < length Numbers → i < count_up_to Numbers' n → i < count_up_to Numbers m
      back i within low =
          (first_ones Numbers kept.ascend m i within).0
          ((listed_far i within).1 ((first_ones Numbers' kept'.ascend n i (within_other i within)).1 low))

  pub same_values_far : values_after r p Vars m ≡ values_after r' (to p) Vars n
  same_values_far =
      values_of_last r p Vars Numbers kept m (subst (λ (k : ℕ). m ≤ k) (full_at r.events p) far.high)
      ∙ (worth.same_values p (count_up_to Numbers m) (count_within Numbers m)
      ∙ (ap (λ (k : ℕ). values_after r' (to p) Vars (ranked Numbers' k)) same_rank
      ∙ sym (values_of_last r' (to p) Vars Numbers' kept' n
      (subst (λ (k : ℕ). n ≤ k) (full_at r'.events (to p)) far.high'))))

  pub same_value_far : (v : ℕ) → Contains Vars v → value_after r m p v ≡ value_after r' n (to p) v
  same_value_far v (k, within, at) =
      subst (λ (w : ℕ). value_after r m p w ≡ value_after r' n (to p) w) at
      (sym (get_or-map (λ w. value_after r m p w) Vars k v (pos 0) within)
      ∙ (ap (λ (values : List ℤ). get_or values k (pos 0)) same_values_far
      ∙ get_or-map (λ w. value_after r' n (to p) w) Vars k v (pos 0) within))
