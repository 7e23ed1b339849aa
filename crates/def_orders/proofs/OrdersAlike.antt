-- Two runs of which the same is seen are alike.
use Rattle.std.proofs.Common.{◌≡◌, ℕ, suc, ◌+◌, ◌-◌, ◌<◌, ◌≤◌, List, [], ◌∷◌, length, get_or, All, flat_map, refl, sym, ap, ◌∙◌, subst, inl, inr, ◌⊎◌, ◌↔◌, arith}
use Rattle.std.proofs.lemmas.Bool.{cases_lt}
use Rattle.std.proofs.lemmas.List.{get_or_default, get_or_past, length-map}
use Rattle.def_model.specs.Events.{IsEvent, place}
use Rattle.def_model.specs.Order.{HasNoCycle, IsUpTo}
use Rattle.def_model.specs.Predicates.{Recorded}
use Rattle.def_long.specs.Views.{value_after}
use Rattle.def_orders.specs.Orders.{AreKept, IsOrderOf, ProcessOrder, values_after}
use Rattle.def_orders.proofs.Alike.{AreAlike, AreOrderedAlike, AreWorthTheSame}
use Rattle.def_orders.proofs.Flat.{same_pieces, same_rows}
use Rattle.def_orders.proofs.KeptImages.{listed}
use Rattle.def_orders.proofs.OneOrder.{Rows, as_many_rows, kept_of, none_listed, nothing_seen, rows_long, seen, there_of_listed, up_to_by_row}
use Rattle.def_orders.proofs.Ranks.{ranked}

-- Two lists of rows of which each row of the first one is what stands at the places `to` in the row of the second one.
-- The rows have `many` and `many'` numbers.
pub record HaveSameRows (many many' : ℕ) (to : ℕ → ℕ) (known known' : List ℕ) : Type 0 where
  pub rows : List (List ℕ)
  pub rows' : List (List ℕ)
  pub long : All (λ (row : List ℕ). length row ≡ many) rows
  pub long' : All (λ (row : List ℕ). length row ≡ many') rows'
  pub known_is : known ≡ flat_map (λ (row : List ℕ). row) rows
  pub known_is' : known' ≡ flat_map (λ (row : List ℕ). row) rows'
  pub as_many : length rows ≡ length rows'
  pub same : (i q : ℕ) → i < length rows → q < many
      → get_or (get_or rows i []) q 0 ≡ get_or (get_or rows' i []) (to q) 0

-- Process q of the second run is process `from q` of the first one, or no variable of it is seen.
abbrev pub IsMatchedOrUnseen : Recorded → (to from : ℕ → ℕ) (named' : List (List ℕ)) → ℕ → Type 0
IsMatchedOrUnseen r to from named' q =
    ((from q < length r.events) × (to (from q) ≡ q)) ⊎ ((length r.events ≤ from q) × (get_or named' q [] ≡ []))

-- Process p of the first run is process `to p` of the second one, and the same is seen of both. Of the processes of the
-- second run that aren't in the first one nothing is.
pub record AreMatched (r r' : Recorded) (to from : ℕ → ℕ) (named named' : List (List ℕ))
    (order order' : List ProcessOrder) : Type 0 where
  pub no_cycle : HasNoCycle r.events
  pub no_cycle' : HasNoCycle r'.events
  pub first : IsOrderOf r named order
  pub second : IsOrderOf r' named' order'
  pub there : (p : ℕ) → p < length r.events → to p < length r'.events
  pub past : (p : ℕ) → length r.events ≤ p → length r'.events ≤ to p
  pub returns : (p : ℕ) → p < length r.events → from (to p) ≡ p
  pub matched_or_unseen : (q : ℕ) → IsMatchedOrUnseen r to from named' q
  pub same_names : (p : ℕ) → p < length r.events → get_or named' (to p) [] ≡ get_or named p []
  pub same_values : (p : ℕ) → p < length r.events
      → (get_or order p nothing_seen).values ≡ (get_or order' (to p) nothing_seen).values
  pub same_rows : (p : ℕ) → p < length r.events
      → HaveSameRows (length r.events) (length r'.events) to (get_or order p nothing_seen).known
      (get_or order' (to p) nothing_seen).known
  -- what isn't there begins with the same values
  pub same_initial : (p : ℕ) → length r.events ≤ p → get_or r.initial p [] ≡ get_or r'.initial (to p) []

-- a process of which no variable is seen keeps no event
none_of_no_names : (r : Recorded) (p : ℕ) (vars numbers : List ℕ) → vars ≡ [] → AreKept r p vars numbers
    → length numbers ≡ 0
none_of_no_names r p vars numbers none kept = go (cases_lt 0 (length numbers))
  where
    go : (0 < length numbers) ⊎ (length numbers ≤ 0) → length numbers ≡ 0
    go (inr few) = omega arith
    go (inl some) =
        absurd (kept.changes (get_or numbers 0 0 - 1) (0, some, next)
        (subst (λ (xs : List ℕ).
        values_after r p xs (get_or numbers 0 0 - 1) ≡ values_after r p xs (get_or numbers 0 0 - 1 + 1))
        (sym none) refl))
      where
        event : IsEvent r.events (place p (get_or numbers 0 0))
        event = kept.events 0 0 some

        next : get_or numbers 0 (get_or numbers 0 0 - 1 + 1) ≡ get_or numbers 0 0 - 1 + 1
        next = let low : 1 ≤ get_or numbers 0 0 = event.0 in
            get_or_default numbers 0 (get_or numbers 0 0 - 1 + 1) 0 some ∙ omega arith

module _ (r r' : Recorded) (to from : ℕ → ℕ) (named named' : List (List ℕ)) (order order' : List ProcessOrder)
    (matched : AreMatched r r' to from named named' order order') where
  abbrev Numbers : ℕ → List ℕ
  Numbers p = get_or matched.first.numbers p []

  abbrev Numbers' : ℕ → List ℕ
  Numbers' q = get_or matched.second.numbers q []

  -- ---- the rows

  abbrev Given : (p : ℕ) → p < length r.events
      → HaveSameRows (length r.events) (length r'.events) to (get_or order p nothing_seen).known
      (get_or order' (to p) nothing_seen).known
  Given p there = matched.same_rows p there

  abbrev FirstRows : (p : ℕ) → p < length r.events → List (List ℕ)
  FirstRows p there = Rows r named order matched.first p there

  abbrev SecondRows : (p : ℕ) → p < length r.events → List (List ℕ)
  SecondRows p there = Rows r' named' order' matched.second (to p) (matched.there p there)

  first_rows : (p : ℕ) → (there : p < length r.events) → FirstRows p there ≡ (Given p there).rows
  first_rows p there =
      same_rows (length r.events) (omega arith) (FirstRows p there) (Given p there).rows
      (rows_long r named order matched.first p there) (Given p there).long
      (sym (seen r named order matched.first p there).known ∙ (Given p there).known_is)

  second_rows : (p : ℕ) → (there : p < length r.events) → SecondRows p there ≡ (Given p there).rows'
  second_rows p there =
      let low : to p < length r'.events = matched.there p there in
      same_rows (length r'.events) (omega arith) (SecondRows p there) (Given p there).rows'
      (rows_long r' named' order' matched.second (to p) (matched.there p there)) (Given p there).long'
      (sym (seen r' named' order' matched.second (to p) (matched.there p there)).known ∙ (Given p there).known_is')

  -- ---- as many kept events

  as_many_there : (p : ℕ) → p < length r.events → length (Numbers p) ≡ length (Numbers' (to p))
  as_many_there p there =
      sym (as_many_rows r named order matched.first p there)
      ∙ (ap length (first_rows p there)
      ∙ ((Given p there).as_many
      ∙ (sym (ap length (second_rows p there))
      ∙ as_many_rows r' named' order' matched.second (to p) (matched.there p there))))

  as_many : (p : ℕ) → length (Numbers p) ≡ length (Numbers' (to p))
  as_many p = go (cases_lt p (length r.events))
    where
      go : (p < length r.events) ⊎ (length r.events ≤ p) → length (Numbers p) ≡ length (Numbers' (to p))
      go (inl there) = as_many_there p there
      go (inr past) =
          none_listed r named order matched.first p past
          ∙ sym (none_listed r' named' order' matched.second (to p) (matched.past p past))

  none_if_unseen : (q : ℕ) → get_or named' q [] ≡ [] → length (Numbers' q) ≡ 0
  none_if_unseen q none =
      none_of_no_names r' q (get_or named' q []) (Numbers' q) none (kept_of r' named' order' matched.second q)

  as_many_back : (q : ℕ) → length (Numbers' q) ≡ length (Numbers (from q))
  as_many_back q = go (matched.matched_or_unseen q)
    where
      go : IsMatchedOrUnseen r to from named' q → length (Numbers' q) ≡ length (Numbers (from q))
      go (inl (there, at)) = sym (as_many_there (from q) there ∙ ap (λ (x : ℕ). length (Numbers' x)) at)
      go (inr (past, none)) = none_if_unseen q none ∙ sym (none_listed r named order matched.first (from q) past)

  returns_back : (q i : ℕ) → i < length (Numbers' q) → to (from q) ≡ q
  returns_back q i within = go (matched.matched_or_unseen q)
    where
      go : IsMatchedOrUnseen r to from named' q → to (from q) ≡ q
      go (inl (there, at)) = at
      go (inr (past, none)) = let empty : length (Numbers' q) ≡ 0 = none_if_unseen q none in absurd (omega arith)

  -- ---- their order

  one_order_of : (p i q j : ℕ) → i < length (Numbers p) → j < length (Numbers q)
      → AreOrderedAlike r.events r'.events to matched.first.numbers matched.second.numbers p i q j
  one_order_of p i q j in_p in_q = (
    λ up. second.1 (subst (λ (n : ℕ). i < n) same (first.0 up)),
    λ up. first.1 (subst (λ (n : ℕ). i < n) (sym same) (second.0 up)),
  )
    where
      there_p : p < length r.events
      there_p = there_of_listed r named order matched.first p i in_p

      there : q < length r.events
      there = there_of_listed r named order matched.first q j in_q

      first : IsUpTo r.events (listed matched.first.numbers p i) (listed matched.first.numbers q j)
          ↔ (i < get_or (get_or (FirstRows q there) j []) p 0)
      first = up_to_by_row r named order matched.first q there p i j in_p in_q

      second : IsUpTo r'.events (listed matched.second.numbers (to p) i) (listed matched.second.numbers (to q) j)
          ↔ (i < get_or (get_or (SecondRows q there) j []) (to p) 0)
      second =
          up_to_by_row r' named' order' matched.second (to q) (matched.there q there) (to p) i j
          (subst (λ (n : ℕ). i < n) (as_many p) in_p) (subst (λ (n : ℕ). j < n) (as_many q) in_q)

      in_rows : j < length (Given q there).rows
      in_rows =
          subst (λ (n : ℕ). j < n)
          (sym (as_many_rows r named order matched.first q there) ∙ ap length (first_rows q there)) in_q

      same : get_or (get_or (FirstRows q there) j []) p 0 ≡ get_or (get_or (SecondRows q there) j []) (to p) 0
      same =
          ap (λ (rows : List (List ℕ)). get_or (get_or rows j []) p 0) (first_rows q there)
          ∙ ((Given q there).same j p in_rows there_p
          ∙ sym (ap (λ (rows : List (List ℕ)). get_or (get_or rows j []) (to p) 0) (second_rows q there)))

  pub orders_alike : AreAlike r r' to from named named' matched.first.numbers matched.second.numbers
  orders_alike = record {
    no_cycle = matched.no_cycle;
    no_cycle' = matched.no_cycle';
    kept = kept_of r named order matched.first;
    kept' = kept_of r' named' order' matched.second;
    returns = λ p i within. matched.returns p (there_of_listed r named order matched.first p i within);
    returns' = returns_back;
    as_many = as_many;
    as_many' = as_many_back;
    same_order = one_order_of;
  }

  -- ---- the values

  one_values_there : (p k : ℕ) → (there : p < length r.events) → k ≤ length (Numbers p)
      → values_after r p (get_or named p []) (ranked (Numbers p) k)
      ≡ values_after r' (to p) (get_or named p []) (ranked (Numbers' (to p)) k)
  one_values_there p k there few =
      same_pieces (values_after r p (get_or named p [])) (values_after r' (to p) (get_or named p []))
      (length (get_or named p [])) (λ n. length-map (get_or named p []) (λ v. value_after r n p v))
      (λ n. length-map (get_or named p []) (λ v. value_after r' n (to p) v)) (0 ∷ Numbers p) (0 ∷ Numbers' (to p))
      (ap suc (as_many p))
      (sym (seen r named order matched.first p there).values
      ∙ (matched.same_values p there
      ∙ ((seen r' named' order' matched.second (to p) (matched.there p there)).values
      ∙ ap (λ (vars : List ℕ). flat_map (values_after r' (to p) vars) (0 ∷ Numbers' (to p)))
      (matched.same_names p there)))) k 0 0 (omega arith)

  pub orders_worth : AreWorthTheSame r r' to named named' matched.first.numbers matched.second.numbers
  orders_worth = record { same_names = names; same_values = values }
    where
      none_named : (p : ℕ) → length r.events ≤ p → get_or named p [] ≡ []
      none_named p past = let long : length named ≡ length r.events = matched.first.all_named in
          get_or_past named p [] (omega arith)

      names : (p : ℕ) → get_or named' (to p) [] ≡ get_or named p []
      names p = go (cases_lt p (length r.events))
        where
          go : (p < length r.events) ⊎ (length r.events ≤ p) → get_or named' (to p) [] ≡ get_or named p []
          go (inl there) = matched.same_names p there
          go (inr past) =
              let long : length named' ≡ length r'.events = matched.second.all_named in
              let none : length r'.events ≤ to p = matched.past p past in
              get_or_past named' (to p) [] (omega arith) ∙ sym (none_named p past)

      values : (p k : ℕ) → k ≤ length (Numbers p)
          → values_after r p (get_or named p []) (ranked (Numbers p) k)
          ≡ values_after r' (to p) (get_or named p []) (ranked (Numbers' (to p)) k)
      values p k few = go (cases_lt p (length r.events))
        where
          go : (p < length r.events) ⊎ (length r.events ≤ p)
              → values_after r p (get_or named p []) (ranked (Numbers p) k)
              ≡ values_after r' (to p) (get_or named p []) (ranked (Numbers' (to p)) k)
          go (inl there) = one_values_there p k there few
          go (inr past) =
              subst (λ (vars : List ℕ).
              values_after r p vars (ranked (Numbers p) k) ≡ values_after r' (to p) vars (ranked (Numbers' (to p)) k))
              (sym (none_named p past)) refl
