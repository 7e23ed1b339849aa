-- A run that has the processes of another one that are seen has its answers: each is the one at its place.
use Rattle.std.proofs.Common.{◌≡◌, ℕ, zero, suc, ◌<◌, ◌≤◌, Bool, true, false, cond, List, [], ◌∷◌, length, get_or, map, nat_eq, Contains, ℤ, refl, sym, ap, ◌∙◌, subst, inl, inr, ◌⊎◌, ◌↔◌, arith}
use Rattle.std.proofs.lemmas.Bool.{cases_lt, eqb-true, eqb-false}
use Rattle.std.proofs.lemmas.List.{get_or-map, get_or_default, get_or_past, length-map}
use Rattle.std.proofs.lemmas.List.Elements.{All-map, Contains-get_or}
use Rattle.std.proofs.lemmas.List.Folds.{flat_map-map}
use Rattle.def_model.specs.Observations.{Definitely, Possibly}
use Rattle.def_model.specs.Predicates.{Recorded, test_of}
use Rattle.def_orders.specs.Laws.{DefinitelyOfPart, PossiblyOfPart}
use Rattle.def_orders.specs.Orders.{ProcessOrder}
use Rattle.def_orders.specs.Selections.{HaveOnePart, IsPartOf, at_places, numbers_in}
use Rattle.def_orders.proofs.MatchedAnswers.{definitely_of_matched, possibly_of_matched}
use Rattle.def_orders.proofs.OneOrder.{nothing_seen}
use Rattle.def_orders.proofs.OrdersAlike.{AreMatched, HaveSameRows, IsMatchedOrUnseen}
use Rattle.def_orders.proofs.Ranks.{Ascend}

-- ---- the index of a place

-- where the number stands in the list, or the list's length
index_in : List ℕ → ℕ → ℕ
index_in [] q = 0
index_in (p ∷ rest) q = cond (nat_eq p q) 0 (suc (index_in rest q))

-- It stands there, or nowhere.
abbrev IsIndexOf : List ℕ → ℕ → ℕ → Type 0
IsIndexOf places q i =
    ((i < length places) × (get_or places i q ≡ q)) ⊎ ((length places ≤ i) × (Contains places q → ⊥))

index_is : (places : List ℕ) (q : ℕ) → IsIndexOf places q (index_in places q)
unfolding index_in
index_is [] q = inr (omega arith, λ (k, within, at). omega arith)
index_is (p ∷ rest) q = go (nat_eq p q) refl (index_is rest q)
  where
    go : (b : Bool) → nat_eq p q ≡ b → IsIndexOf rest q (index_in rest q)
        → IsIndexOf (p ∷ rest) q (cond b 0 (suc (index_in rest q)))
    go true same other = inl (omega arith, eqb-true p q same)
    go false apart (inl (within, at)) = inl (omega arith, at)
    go false apart (inr (past, out)) = inr (omega arith, nowhere)
      where
        nowhere : Contains (p ∷ rest) q → ⊥
        nowhere (zero, within, at) = eqb-false p q apart at
        nowhere (suc k, within, at) = out (k, omega arith, at)

-- of ascending places each has its own
index_of_place : (places : List ℕ) → Ascend places → (i d : ℕ) → i < length places
    → index_in places (get_or places i d) ≡ i
index_of_place places ascend i d within = go (index_in places q) (index_is places q)
  where
    q : ℕ
    q = get_or places i d

    go : (k : ℕ) → IsIndexOf places q k → k ≡ i
    go k (inr (past, out)) = absurd (out (Contains-get_or places i d within))
    go k (inl (there, at)) = order (cases_lt k i) (cases_lt i k)
      where
        same : get_or places k d ≡ get_or places i d
        same = get_or_default places k d q there ∙ at

        order : (k < i) ⊎ (i ≤ k) → (i < k) ⊎ (k ≤ i) → k ≡ i
        order (inl low) other =
            let less : get_or places k d < get_or places i d = ascend k i d low within in absurd (omega (arith, same))
        order (inr le) (inl high) =
            let less : get_or places i d < get_or places k d = ascend i k d high there in absurd (omega (arith, same))
        order (inr le) (inr ge) = omega arith

-- ---- the runs

module _ (r r' : Recorded) (places : List ℕ) (named : List (List ℕ)) (order part : List ProcessOrder)
    (one : HaveOnePart r r' places named order part) where
  -- the process at the i-th place, or none
  abbrev PlaceOf : ℕ → ℕ
  PlaceOf = (numbers_in places (length r.events)).process

  within_places : (i : ℕ) → i < length r'.events → i < length places
  within_places i there = subst (λ (n : ℕ). i < n) one.as_many there

  past_places : (i : ℕ) → length r'.events ≤ i → length places ≤ i
  past_places i past = subst (λ (n : ℕ). n ≤ i) one.as_many past

  none_past : (i : ℕ) → length r'.events ≤ i → PlaceOf i ≡ length r.events
  none_past i past = get_or_past places i (length r.events) (past_places i past)

  place_or_unseen : (q : ℕ) → IsMatchedOrUnseen r' PlaceOf (index_in places) named q
  place_or_unseen q = go (index_is places q)
    where
      unseen : (Contains places q → ⊥) → (q < length r.events) ⊎ (length r.events ≤ q) → get_or named q [] ≡ []
      unseen out (inl there) = one.unseen q there out
      unseen out (inr past) = let long : length named ≡ length r.events = one.first.all_named in
          get_or_past named q [] (omega arith)

      go : IsIndexOf places q (index_in places q) → IsMatchedOrUnseen r' PlaceOf (index_in places) named q
      go (inl (within, at)) =
          inl (
            subst (λ (n : ℕ). index_in places q < n) (sym one.as_many) within,
            get_or_default places (index_in places q) (length r.events) q within ∙ at,
          )
      go (inr (past, out)) =
          inr (
            subst (λ (n : ℕ). n ≤ index_in places q) (sym one.as_many) past,
            unseen out (cases_lt q (length r.events)),
          )

  -- ---- what is seen of the process at a place

  part_of : (i : ℕ) → i < length r'.events
      → IsPartOf (length order) places (get_or order (PlaceOf i) nothing_seen) (get_or part i nothing_seen)
  part_of i there =
      subst (λ (p : ℕ).
      IsPartOf (length order) places (get_or order p nothing_seen) (get_or part i nothing_seen))
      (get_or_default places i 0 (length r.events) (within_places i there))
      (one.are_parts.each i nothing_seen (within_places i there))

  part_rows : (i : ℕ) → i < length r'.events
      → HaveSameRows (length r'.events) (length r.events) PlaceOf (get_or part i nothing_seen).known
      (get_or order (PlaceOf i) nothing_seen).known
  part_rows i there = record {
    rows = map Columns Whole;
    rows' = Whole;
    long = All-map (λ (row : List ℕ). length row ≡ length r'.events) Columns Whole
        (λ k d within. length-map places (λ p. get_or (get_or Whole k d) p 0) ∙ sym one.as_many);
    long' = λ k d within. (part_of i there).long k d within ∙ one.first.all_seen;
    known_is = (part_of i there).part_known ∙ sym (flat_map-map (λ (row : List ℕ). row) Columns Whole);
    known_is' = (part_of i there).known;
    as_many = length-map Whole Columns;
    same = λ k q within low.
        ap (λ (row : List ℕ). get_or row q 0)
        (get_or-map Columns Whole k [] [] (subst (λ (n : ℕ). k < n) (length-map Whole Columns) within))
        ∙ get_or-map (λ p. get_or (get_or Whole k []) p 0) places q (length r.events) 0 (within_places q low);
  }
    where
      Whole : List (List ℕ)
      Whole = (part_of i there).rows

      Columns : List ℕ → List ℕ
      Columns row = at_places places row 0

  part_matched : AreMatched r' r PlaceOf (index_in places) (at_places places named []) named part order
  part_matched = record {
    no_cycle = one.no_cycle';
    no_cycle' = one.no_cycle;
    first = one.second;
    second = one.first;
    there = λ i there. one.there i (length r.events) (within_places i there);
    past = λ i past. let none : PlaceOf i ≡ length r.events = none_past i past in omega arith;
    returns = λ i there. index_of_place places one.ascend i (length r.events) (within_places i there);
    matched_or_unseen = place_or_unseen;
    same_names = λ i there.
        sym (get_or-map (λ p. get_or named p []) places i (length r.events) [] (within_places i there));
    same_values = λ i there. (part_of i there).values;
    same_rows = part_rows;
    same_initial = same_beginning;
  }
    where
      none_here : (i : ℕ) → length r'.events ≤ i → get_or r'.initial i [] ≡ []
      none_here i past =
          ap (λ (initial : List (List ℤ)). get_or initial i []) one.same_initial
          ∙ get_or_past (at_places places r.initial []) i []
          (subst (λ (n : ℕ). n ≤ i) (sym (length-map places (λ p. get_or r.initial p []))) (past_places i past))

      same_beginning : (i : ℕ) → length r'.events ≤ i → get_or r'.initial i [] ≡ get_or r.initial (PlaceOf i) []
      same_beginning i past =
          let none : PlaceOf i ≡ length r.events = none_past i past in
          let each : length r.initial ≡ length r.events = one.values_each in
          none_here i past ∙ sym (get_or_past r.initial (PlaceOf i) [] (omega arith))

-- ---- the answers

pub possibly_of_part : PossiblyOfPart
possibly_of_part r r' places named order part predicate predicate' one over names = (both.1, both.0)
  where
    both : Possibly r'.events (test_of r' predicate') ↔ Possibly r.events (test_of r predicate)
    both =
        possibly_of_matched r' r (numbers_in places (length r.events)).process (index_in places)
        (at_places places named []) named part order predicate' predicate
        (part_matched r r' places named order part one) over names

pub definitely_of_part : DefinitelyOfPart
definitely_of_part r r' places named order part predicate predicate' one over names = (both.1, both.0)
  where
    both : Definitely r'.events (test_of r' predicate') ↔ Definitely r.events (test_of r predicate)
    both =
        definitely_of_matched r' r (numbers_in places (length r.events)).process (index_in places)
        (at_places places named []) named part order predicate' predicate
        (part_matched r r' places named order part one) over names
