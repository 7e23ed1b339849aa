-- A run has one order: its kept events are those that leave a variable with another value, and each has one clock of
-- each process.
use Rattle.std.proofs.Common.{◌≡◌, ℕ, zero, suc, ◌+◌, ◌-◌, ◌<◌, ◌≤◌, List, [], ◌∷◌, length, get_or, ℤ, Contains, flat_map, refl, sym, ap, ap₂, ◌∙◌, subst, inl, inr, ◌⊎◌, ◌↔◌, arith}
use Rattle.std.specs.List.{AllZip}
use Rattle.std.proofs.lemmas.Bool.{cases_eq}
use Rattle.std.proofs.lemmas.Grind.{same_number_lists}
use Rattle.std.proofs.lemmas.List.{ext_get_or, get_or_default}
use Rattle.def_model.specs.Events.{IsEvent, Place, place}
use Rattle.def_model.specs.Predicates.{Recorded}
use Rattle.def_model.proofs.ClockLemmas.{one_clock}
use Rattle.def_orders.specs.Laws.{OrderIsSingle}
use Rattle.def_orders.specs.Orders.{AreKept, IsKnownTo, IsSeenOf, ProcessOrder, count_up_to}
use Rattle.def_orders.proofs.OneOrder.{nothing_seen}
use Rattle.def_orders.proofs.Ranks.{Ascend, contained_of_last, last_of_contained, last_up_to, rest_ascend}

-- ---- ascending lists that have the same numbers

first_or_rest : (x : ℕ) (rest : List ℕ) (n : ℕ) → Contains (x ∷ rest) n → (x ≡ n) ⊎ Contains rest n
first_or_rest x rest n (zero, within, at) = inl at
first_or_rest x rest n (suc i, within, at) = inr (i, omega arith, at)

above_first : (x : ℕ) (rest : List ℕ) → Ascend (x ∷ rest) → (n : ℕ) → Contains rest n → x < n
above_first x rest ascend n (i, within, at) =
    subst (λ (m : ℕ). x < m) at (ascend 0 (suc i) n (omega arith) (omega arith))

from_first_on : (x : ℕ) (rest : List ℕ) → Ascend (x ∷ rest) → (n : ℕ) → Contains (x ∷ rest) n → x ≤ n
from_first_on x rest ascend n has = go (first_or_rest x rest n has)
  where
    go : (x ≡ n) ⊎ Contains rest n → x ≤ n
    go (inl same) = omega arith
    go (inr later) = let above : x < n = above_first x rest ascend n later in omega arith

none_contained : (n : ℕ) → Contains [] n → ⊥
none_contained n (i, within, at) = omega arith

has_first : (x : ℕ) (rest : List ℕ) → Contains (x ∷ rest) x
has_first x rest = (0, omega arith, refl)

has_later : (x : ℕ) (rest : List ℕ) (n : ℕ) → Contains rest n → Contains (x ∷ rest) n
has_later x rest n (i, within, at) = (suc i, omega arith, at)

same_numbers : (xs ys : List ℕ) → Ascend xs → Ascend ys → ((n : ℕ) → Contains xs n ↔ Contains ys n) → xs ≡ ys
same_numbers [] [] up up' same = refl
same_numbers [] (y ∷ ys) up up' same = absurd (none_contained y ((same y).1 (has_first y ys)))
same_numbers (x ∷ xs) [] up up' same = absurd (none_contained x ((same x).0 (has_first x xs)))
same_numbers (x ∷ xs) (y ∷ ys) up up' same =
    ap₂ (λ (n : ℕ) (rest : List ℕ). n ∷ rest) one_first
    (same_numbers xs ys (rest_ascend x xs up) (rest_ascend y ys up') (λ n. (to n, from n)))
  where
    one_first : x ≡ y
    one_first =
        let low : y ≤ x = from_first_on y ys up' x ((same x).0 (has_first x xs)) in
        let high : x ≤ y = from_first_on x xs up y ((same y).1 (has_first y ys)) in omega arith

    to : (n : ℕ) → Contains xs n → Contains ys n
    to n has = go (first_or_rest y ys n ((same n).0 (has_later x xs n has)))
      where
        go : (y ≡ n) ⊎ Contains ys n → Contains ys n
        go (inl at) =
            let above : x < n = above_first x xs up n has in
            let first : x ≡ y = one_first in absurd (omega arith)
        go (inr later) = later

    from : (n : ℕ) → Contains ys n → Contains xs n
    from n has = go (first_or_rest x xs n ((same n).1 (has_later y ys n has)))
      where
        go : (x ≡ n) ⊎ Contains xs n → Contains xs n
        go (inl at) =
            let above : y < n = above_first y ys up' n has in
            let first : x ≡ y = one_first in absurd (omega arith)
        go (inr later) = later

-- ---- the kept events

contains_or_not : (numbers : List ℕ) → Ascend numbers → (n : ℕ) → 1 ≤ n
    → Contains numbers n ⊎ (Contains numbers n → ⊥)
contains_or_not numbers ascend n some = go (cases_eq (last_up_to numbers n) n)
  where
    there : (i : ℕ) × (i < length numbers) × (get_or numbers i 0 ≡ n) → Contains numbers n
    there (i, within, at) = (i, within, get_or_default numbers i n 0 within ∙ at)

    go : (last_up_to numbers n ≡ n) ⊎ (last_up_to numbers n ≡ n → ⊥) → Contains numbers n ⊎ (Contains numbers n → ⊥)
    go (inl last) = inl (there (contained_of_last numbers n some last))
    go (inr apart) = inr (λ has. apart (last_of_contained numbers ascend n has))

-- what is kept is kept in each such list
also_kept : (r : Recorded) (p : ℕ) (vars numbers others : List ℕ) → AreKept r p vars numbers → AreKept r p vars others
    → (n : ℕ) → Contains numbers n → Contains others n
also_kept r p vars numbers others kept kept' n has = go (contains_or_not others kept'.ascend n event.0)
  where
    event_of : Contains numbers n → IsEvent r.events (place p n)
    event_of (i, within, at) = subst (λ (m : ℕ). IsEvent r.events (place p m)) at (kept.events i n within)

    event : IsEvent r.events (place p n)
    event = event_of has

    next : (n - 1) + 1 ≡ n
    next = let some : 1 ≤ n = event.0 in omega arith

    go : Contains others n ⊎ (Contains others n → ⊥) → Contains others n
    go (inl there) = there
    go (inr out) =
        let some : 1 ≤ n = event.0 in
        absurd (kept.changes (n - 1) (subst (Contains numbers) (sym next) has)
        (kept'.others (n - 1) (omega (arith, event.1)) (λ there. out (subst (Contains others) next there))))

one_kept_list : (r : Recorded) (p : ℕ) (vars numbers others : List ℕ) → AreKept r p vars numbers
    → AreKept r p vars others → numbers ≡ others
one_kept_list r p vars numbers others kept kept' =
    same_numbers numbers others kept.ascend kept'.ascend (λ n. (
      also_kept r p vars numbers others kept kept' n,
      also_kept r p vars others numbers kept' kept n,
    ))

-- ---- what is seen of a process

one_row : (r : Recorded) (numbers : List (List ℕ)) (e : Place) (row row' : List ℕ) → IsKnownTo r numbers e row
    → IsKnownTo r numbers e row' → row ≡ row'
one_row r numbers e row row' known known' =
    same_number_lists row row' (known.one_each ∙ sym known'.one_each) (λ q lt. at q (omega (arith, known.one_each, lt)))
  where
    at : (q : ℕ) → q < length numbers → get_or row q 0 ≡ get_or row' q 0
    at q within =
        let first = known.each q within in
        let second = known'.each q within in
        first.2 ∙ (ap (count_up_to (get_or numbers q []))
        (one_clock r.events e q first.0 second.0 first.1 second.1) ∙ sym second.2)

one_list_of_rows : (r : Recorded) (numbers : List (List ℕ)) (p : ℕ) (kept : List ℕ) (rows rows' : List (List ℕ))
    → AllZip (λ n row. IsKnownTo r numbers (place p n) row) kept rows
    → AllZip (λ n row. IsKnownTo r numbers (place p n) row) kept rows' → rows ≡ rows'
one_list_of_rows r numbers p [] [] [] all all' = refl
one_list_of_rows r numbers p [] (row ∷ rows) rows' all all' = absurd all
one_list_of_rows r numbers p [] [] (row ∷ rows') all all' = absurd all'
one_list_of_rows r numbers p (n ∷ kept) [] rows' all all' = absurd all
one_list_of_rows r numbers p (n ∷ kept) (row ∷ rows) [] all all' = absurd all'
one_list_of_rows r numbers p (n ∷ kept) (row ∷ rows) (row' ∷ rows') all all' =
    ap₂ (λ (first : List ℕ) (rest : List (List ℕ)). first ∷ rest)
    (one_row r numbers (place p n) row row' all.0 all'.0) (one_list_of_rows r numbers p kept rows rows' all.1 all'.1)

one_seen : (r : Recorded) (vars : List ℕ) (numbers : List (List ℕ)) (p : ℕ) (order other : ProcessOrder)
    → IsSeenOf r vars numbers p order → IsSeenOf r vars numbers p other → order ≡ other
one_seen r vars numbers p order other seen seen' =
    ap₂ (λ (values : List ℤ) (known : List ℕ). of values known) (seen.values ∙ sym seen'.values)
    (seen.known ∙ (ap (flat_map (λ (row : List ℕ). row))
    (one_list_of_rows r numbers p (get_or numbers p []) seen.rows seen'.rows seen.are_rows seen'.are_rows)
    ∙ sym seen'.known))
  where
    of : List ℤ → List ℕ → ProcessOrder
    of values known = record { values = values; known = known }

-- ---- the order

pub order_is_single : OrderIsSingle
order_is_single r named order other is is' =
    ext_get_or nothing_seen order other (is.all_seen ∙ sym is'.all_seen) (λ p lt.
    one_seen r (get_or named p []) is.numbers p (get_or order p nothing_seen) (get_or other p nothing_seen)
    (is.each p nothing_seen (omega (arith, is.all_seen, lt)))
    (subst (λ (numbers : List (List ℕ)).
    IsSeenOf r (get_or named p []) numbers p (get_or other p nothing_seen)) (sym one_list)
    (is'.each p nothing_seen (omega (arith, is.all_seen, lt)))))
  where
    one_list : is.numbers ≡ is'.numbers
    one_list =
        ext_get_or [] is.numbers is'.numbers (is.all_kept ∙ sym is'.all_kept) (λ p lt.
        one_kept_list r p (get_or named p []) (get_or is.numbers p []) (get_or is'.numbers p [])
        (is.each p nothing_seen (omega (arith, is.all_kept, lt))).kept
        (is'.each p nothing_seen (omega (arith, is.all_kept, lt))).kept)
