-- Whether the kept events are few: all lists of their numbers are equally long.
use Rattle.std.proofs.Common.{◌≡◌, ◌≢◌, ◌+◌, ◌-◌, ◌<◌, ◌≤◌, ◌⊎◌, inl, inr, ℕ, zero, suc, ℤ, pos, List, [], ◌∷◌, All, get_or, length, refl, sym, ap, ◌∙◌, subst, arith}
use Rattle.std.specs.Prelude.{AllPairs, Contains, slice_index_or}
use Rattle.std.proofs.lemmas.Bool.{cases_eq}
use Rattle.std.proofs.lemmas.List.{get_or-map}
use Rattle.def_format.specs.Documents.{Document, NamedPredicate}
use Rattle.def_long.specs.Views.{value_after}
use Rattle.def_model.specs.Events.{IsEvent, place}
use Rattle.def_model.specs.Predicates.{Recorded}
use Rattle.def_orders.specs.Orders.{AreKept, IsOver, values_after}
use Rattle.judge_orders.specs.Growth.{Grows, SeeNoOther}
use Rattle.judge_orders.specs.KeptEvents.{AllKept}
use Rattle.judge_orders.specs.KeptRuns.{AreWithinLimit, KeepsFew}

-- ---- ascending lists

abbrev Ascend : List ℕ → Type 0
Ascend numbers = AllPairs (λ (m n : ℕ). m < n) numbers

rest_ascend : (x : ℕ) (rest : List ℕ) → Ascend (x ∷ rest) → Ascend rest
rest_ascend x rest up = λ i j d before lt. up (suc i) (suc j) d (omega (arith, before)) (omega (arith, lt))

first_or_rest : (x : ℕ) (rest : List ℕ) (n : ℕ) → Contains (x ∷ rest) n → (x ≡ n) ⊎ Contains rest n
first_or_rest x rest n (zero, within, at) = inl at
first_or_rest x rest n (suc i, within, at) = inr (i, omega (arith, within), at)

has_first : (x : ℕ) (rest : List ℕ) → Contains (x ∷ rest) x
has_first x rest = (0, omega arith, refl)

has_later : (x : ℕ) (rest : List ℕ) (n : ℕ) → Contains rest n → Contains (x ∷ rest) n
has_later x rest n (i, within, at) = (suc i, omega (arith, within), at)

above_first : (x : ℕ) (rest : List ℕ) → Ascend (x ∷ rest) → (n : ℕ) → Contains rest n → x < n
above_first x rest up n (i, within, at) =
    subst (λ (m : ℕ). x < m) at (up 0 (suc i) n (omega arith) (omega (arith, within)))

-- a list whose numbers another one has isn't longer
not_longer : (xs ys : List ℕ) → Ascend xs → Ascend ys → ((n : ℕ) → Contains xs n → Contains ys n)
    → length xs ≤ length ys
not_longer [] ys up up' has = omega arith
not_longer (x ∷ xs) [] up up' has =
    let there : Contains [] x = has x (has_first x xs) in absurd (omega (arith, there.1))
not_longer (x ∷ xs) (y ∷ ys) up up' has =
    go (cases_eq x y) (not_longer xs ys (rest_ascend x xs up) (rest_ascend y ys up'))
    (not_longer (x ∷ xs) ys up (rest_ascend y ys up'))
  where
    -- the rest of the one is in the rest of the other
    rest : x ≡ y → (n : ℕ) → Contains xs n → Contains ys n
    rest same n later = at (first_or_rest y ys n (has n (has_later x xs n later)))
      where
        at : (y ≡ n) ⊎ Contains ys n → Contains ys n
        at (inl first) = absurd (omega (arith, same, first, above_first x xs up n later))
        at (inr there) = there

    -- the whole of the one is in the rest of the other
    whole : x ≢ y → (n : ℕ) → Contains (x ∷ xs) n → Contains ys n
    whole apart n here = at (first_or_rest y ys n (has n here)) (first_or_rest y ys x (has x (has_first x xs)))
      where
        low : (y ≡ x) ⊎ Contains ys x → y < x
        low (inl same) = absurd (apart (sym same))
        low (inr there) = above_first y ys up' x there

        from : (x ≡ n) ⊎ Contains xs n → x ≤ n
        from (inl same) = omega (arith, same)
        from (inr later) = omega (arith, above_first x xs up n later)

        at : (y ≡ n) ⊎ Contains ys n → (y ≡ x) ⊎ Contains ys x → Contains ys n
        at (inl first) first' =
            absurd (omega (arith, first, low first', from (first_or_rest x xs n here)))
        at (inr there) first' = there

    go : (x ≡ y) ⊎ (x ≢ y) → (((n : ℕ) → Contains xs n → Contains ys n) → length xs ≤ length ys)
        → (((n : ℕ) → Contains (x ∷ xs) n → Contains ys n) → length (x ∷ xs) ≤ length ys)
        → length (x ∷ xs) ≤ length (y ∷ ys)
    go (inl same) one both = omega (arith, one (rest same))
    go (inr apart) one both = omega (arith, both (whole apart))

contains_or_not : (numbers : List ℕ) (n : ℕ) → Contains numbers n ⊎ (¬ Contains numbers n)
contains_or_not [] n = inr (λ (i, within, at). absurd (omega (arith, within)))
contains_or_not (x ∷ rest) n = go (cases_eq x n) (contains_or_not rest n)
  where
    go : (x ≡ n) ⊎ (x ≢ n) → Contains rest n ⊎ (¬ Contains rest n)
        → Contains (x ∷ rest) n ⊎ (¬ Contains (x ∷ rest) n)
    go (inl same) later = inl (subst (Contains (x ∷ rest)) same (has_first x rest))
    go (inr apart) (inl later) = inl (has_later x rest n later)
    go (inr apart) (inr out) = inr (λ has. none (first_or_rest x rest n has))
      where
        none : (x ≡ n) ⊎ Contains rest n → ⊥
        none (inl same) = apart same
        none (inr later) = out later

-- ---- of a process

-- variables that are among others are worth the same if these are
fewer_same : (r : Recorded) (p : ℕ) (few vars : List ℕ) (m n : ℕ) → ((v : ℕ) → Contains few v → Contains vars v)
    → values_after r p vars m ≡ values_after r p vars n → values_after r p few m ≡ values_after r p few n
fewer_same r p [] vars m n among same = refl
fewer_same r p (v ∷ few) vars m n among same = λ i.
    one (among v (has_first v few)) i
    ∷ fewer_same r p few vars m n (λ w has. among w (has_later v few w has)) same i
  where
    one : Contains vars v → value_after r m p v ≡ value_after r n p v
    one (k, within, at) =
        ap (λ (w : ℕ). value_after r m p w) (sym at)
        ∙ (sym (get_or-map (λ (w : ℕ). value_after r m p w) vars k v (pos 0) within)
        ∙ (ap (λ (values : List ℤ). get_or values k (pos 0)) same
        ∙ (get_or-map (λ (w : ℕ). value_after r n p w) vars k v (pos 0) within
        ∙ ap (λ (w : ℕ). value_after r n p w) at)))

-- an event that is kept by some variables is kept by more
also_kept : (r : Recorded) (p : ℕ) (few vars numbers others : List ℕ)
    → ((v : ℕ) → Contains few v → Contains vars v) → AreKept r p few numbers → AreKept r p vars others → (n : ℕ)
    → Contains numbers n → Contains others n
also_kept r p few vars numbers others among kept kept' n has = go n (event has) has (contains_or_not others n)
  where
    event : Contains numbers n → IsEvent r.events (place p n)
    event (i, within, at) = subst (λ (m : ℕ). IsEvent r.events (place p m)) at (kept.events i n within)

    go : (n : ℕ) → IsEvent r.events (place p n) → Contains numbers n → Contains others n ⊎ (¬ Contains others n)
        → Contains others n
    go n is has (inl there) = there
    go n is has (inr out) =
        let next : n - 1 + 1 ≡ n = omega (arith, is.0) in
        absurd (kept.changes (n - 1) (subst (Contains numbers) (sym next) has)
        (fewer_same r p few vars (n - 1) (n - 1 + 1) among
        (kept'.others (n - 1) (omega (arith, is.0, is.1)) (λ there. out (subst (Contains others) next there)))))

-- ---- of the run

pub few_kept : (document : Document) (r : Recorded) (named numbers : List (List ℕ)) → length named ≡ length r.events
    → All (λ (asked : NamedPredicate). IsOver named asked.predicate) document.predicates
    → AllKept r named numbers (length r.events) → AreWithinLimit numbers (length r.events) → KeepsFew document r
few_kept document r named numbers many over kept within others are p lt =
    let grows : Grows are.named named = are.just named many over in
    let some = kept p lt in
    let other = are.kept p lt in
    let most = within p lt in
    omega (
      arith,
      most,
      not_longer (slice_index_or others p []) (slice_index_or numbers p []) other.ascend some.ascend
          (also_kept r p (slice_index_or are.named p []) (slice_index_or named p []) (slice_index_or others p [])
          (slice_index_or numbers p []) (λ v has. grows.stay p v has) other some),
    )

pub many_kept : (document : Document) (r : Recorded) (named numbers : List (List ℕ)) → length named ≡ length r.events
    → All (λ (asked : NamedPredicate). IsOver named asked.predicate) document.predicates
    → SeeNoOther named (length r.events) document.predicates → AllKept r named numbers (length r.events)
    → ¬ AreWithinLimit numbers (length r.events) → ¬ KeepsFew document r
many_kept document r named numbers many over just kept long few =
    long (few numbers (record { named = named; one_each = many; over = over; just = just; kept = kept }))
