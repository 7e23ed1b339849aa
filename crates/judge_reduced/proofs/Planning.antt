-- The events of a process grow by a receipt, or none is needed.
use Rattle.std.proofs.Common.{◌≡◌, ℕ, suc, ◌+◌, ◌<◌, ◌≤◌, ◌⊎◌, inl, inr, List, [], ◌∷◌, ◌++◌, length, get_or, set, Some, Contains, refl, sym, ap, ◌∙◌, subst, arith}
use Rattle.std.proofs.lemmas.Bool.{cases_eq, cases_lt}
use Rattle.std.proofs.lemmas.Grind.{get_or-set_at}
use Rattle.std.proofs.lemmas.List.{get_or-set_other, length-set}
use Rattle.std.proofs.lemmas.List.Elements.{All-push}
use Rattle.def_format.specs.Names.{ProcessNames}
use Rattle.def_format.specs.ReadingLaws.{FitsProcess}
use Rattle.def_model.specs.Events.{Event, Receive, numbered}
use Rattle.def_model.specs.Order.{HappenedBefore}
use Rattle.def_model.specs.Predicates.{Recorded}
use Rattle.def_model.proofs.Chains.{happens_transitive, step_happens}
use Rattle.judge_reduced.specs.Planned.{ComesThrough, IsKnown, IsPlanned}
use Rattle.judge_reduced.specs.Plans.{HasNoneBetween, IsImage, IsReceipt, IsReceivedUpTo, kept_place, message_id}
use Rattle.judge_reduced.proofs.Appended.{numbered_more, numbered_stays, one_longer, receipt_stays, received_later, received_more, received_new, received_stays}
use Rattle.judge_reduced.proofs.MessageIds.{same_message}
use Rattle.judge_reduced.specs.Planned.{AreListed}

-- what happened before a kept event happened before each later one of its process
pub before_later : (r : Recorded) (numbers : List (List ℕ)) → AreListed r.events numbers → (p q j i l : ℕ) → i ≤ l
    → l < length (get_or numbers p []) → HappenedBefore r.events (kept_place numbers q j) (kept_place numbers p i)
    → HappenedBefore r.events (kept_place numbers q j) (kept_place numbers p l)
before_later r numbers are p q j i l le in_p before = go (cases_lt i l)
  where
    go : (i < l) ⊎ (l ≤ i) → HappenedBefore r.events (kept_place numbers q j) (kept_place numbers p l)
    go (inl lt) =
        happens_transitive r.events (kept_place numbers q j) (kept_place numbers p i) (kept_place numbers p l) before
        (step_happens r.events (kept_place numbers p i) (kept_place numbers p l)
        (inl (are.events p i 0 (omega arith), are.events p l 0 in_p, refl, are.ascend p i l 0 lt in_p)))
    go (inr ge) =
        let same : i ≡ l = omega arith in
        subst (λ (k : ℕ). HappenedBefore r.events (kept_place numbers q j) (kept_place numbers p k)) same before

abbrev receipt_of : ℕ → ℕ → Event
receipt_of q k = record { kind = Receive (message_id q k); sets = [] }

module _ (names : List ProcessNames) (r : Recorded) (vars : List ℕ) (numbers : List (List ℕ)) (p i : ℕ)
    (events : List Event) (last : List ℕ) (plan : IsPlanned names r vars numbers p i events last)
    (are : AreListed r.events numbers) where
  -- ---- a receipt more

  module _ (q k : ℕ) (apart : q ≡ p → ⊥) (there : q < length numbers) (in_p : i < length (get_or numbers p []))
      (is_known : IsKnown r numbers p i q (suc k)) (is_more : get_or last q 0 ≤ k) where
    abbrev More : List Event
    More = events ++ receipt_of q k ∷ []

    abbrev Last : List ℕ
    Last = set last q (suc k)

    longer : length More ≡ length events + 1
    longer = one_longer events (receipt_of q k)

    in_last : q < length last
    in_last = let same : length last ≡ length numbers = plan.long in omega arith

    in_q : k < length (get_or numbers q [])
    in_q = let le : suc k ≤ length (get_or numbers q []) = is_known.there in omega arith

    known_later : (j l : ℕ) → i ≤ l → l < length (get_or numbers p []) → j < length (get_or numbers q []) → j < suc k
        → HappenedBefore r.events (kept_place numbers q j) (kept_place numbers p l)
    known_later j l le in_l in_j lt = before_later r numbers are p q j i l le in_l ((is_known.just j in_j).0 lt)

    is_receipt : IsReceipt r numbers p More plan.places (suc (length events)) (receipt_of q k)
    is_receipt = record {
      process = q;
      rank = k;
      there = in_q;
      other = apart;
      receives = refl;
      sets_nothing = refl;
      before = λ l in_l high. before l in_l high (cases_lt l i);
      once = λ m lt has. once m lt (received_more events (receipt_of q k) m (message_id q k) has);
    }
      where
        before : (l : ℕ) → l < length (get_or numbers p [])
            → (l < length plan.places → suc (length events) ≤ get_or plan.places l 0) → (l < i) ⊎ (i ≤ l)
            → HappenedBefore r.events (kept_place numbers q k) (kept_place numbers p l)
        before l in_l high (inl lt) =
            let many : length plan.places ≡ i = plan.as_many in
            let low : get_or plan.places l 0 ≤ length events = plan.within l 0 (omega arith) in
            let le : suc (length events) ≤ get_or plan.places l 0 = high (omega arith) in absurd (omega arith)
        before l in_l high (inr ge) = known_later k l ge in_l in_q (omega arith)

        once : (m : ℕ) → m < suc (length events)
            → IsReceivedUpTo events (length events) (message_id q k) × IsReceivedUpTo events m (message_id q k)
            ⊎ ((suc (length events) ≤ m) × (Receive (message_id q k) ≡ Receive (message_id q k))) → ⊥
        once m lt (inl has) = let low : k < get_or last q 0 = plan.once q k has.0 in omega arith
        once m lt (inr high) = let le : suc (length events) ≤ m = high.0 in omega arith

    receipts : (n : ℕ) (event : Event) → (Contains plan.places n → ⊥)
        → ((n ≤ length events) × (numbered events n ≡ Some event))
        ⊎ ((n ≡ suc (length events)) × (receipt_of q k ≡ event)) → IsReceipt r numbers p More plan.places n event
    receipts n event out (inl old) =
        receipt_stays r numbers p events (receipt_of q k) plan.places n event old.0
        (plan.receipts n event old.1 out)
    receipts n event out (inr new) =
        subst (λ (m : ℕ). IsReceipt r numbers p More plan.places m event) (sym new.0)
        (subst (IsReceipt r numbers p More plan.places (suc (length events))) new.1 is_receipt)

    images : (l : ℕ) → l < length plan.places → (event : Event)
        × (numbered More (get_or plan.places l 0) ≡ Some event) × IsImage r vars numbers p l event
    images l lt = go (plan.images l lt)
      where
        go : (event : Event) × (numbered events (get_or plan.places l 0) ≡ Some event)
            × IsImage r vars numbers p l event
            → (event : Event) × (numbered More (get_or plan.places l 0) ≡ Some event)
            × IsImage r vars numbers p l event
        go (event, at, image) =
            (event, numbered_stays events (receipt_of q k) (get_or plan.places l 0) event at, image)

    known : (s j l : ℕ) → (s ≡ p → ⊥) → i ≤ l → l < length (get_or numbers p []) → j < length (get_or numbers s [])
        → j < get_or Last s 0 → (s ≡ q) ⊎ (s ≡ q → ⊥)
        → HappenedBefore r.events (kept_place numbers s j) (kept_place numbers p l)
    known s j l other le in_l in_j lt (inl same) =
        let here : get_or Last s 0 ≡ suc k = get_or-set_at last q s (suc k) 0 same in_last in
        subst (λ (x : ℕ). HappenedBefore r.events (kept_place numbers x j) (kept_place numbers p l)) (sym same)
        (known_later j l le in_l (subst (λ (x : ℕ). j < length (get_or numbers x [])) same in_j) (omega arith))
    known s j l other le in_l in_j lt (inr differ) =
        plan.known s j l other le in_l in_j
        (subst (λ (x : ℕ). j < x) (get_or-set_other last q s (suc k) 0 differ) lt)

    few : (s : ℕ) → (s ≡ p → ⊥) → (s ≡ q) ⊎ (s ≡ q → ⊥) → get_or Last s 0 ≤ length (get_or numbers s [])
    few s other (inl same) =
        subst (λ (x : ℕ). get_or Last x 0 ≤ length (get_or numbers x [])) (sym same)
        (subst (λ (n : ℕ). n ≤ length (get_or numbers q [])) (sym (get_or-set_at last q q (suc k) 0 refl in_last))
        is_known.there)
    few s other (inr differ) =
        subst (λ (n : ℕ). n ≤ length (get_or numbers s [])) (sym (get_or-set_other last q s (suc k) 0 differ))
        (plan.few s other)

    all_longer : {id : List ℕ} → IsReceivedUpTo More (suc (length events)) id → IsReceivedUpTo More (length More) id
    all_longer {id} has = received_later More (suc (length events)) (length More) id (omega (arith, longer)) has

    latest : (s j l : ℕ) → (s ≡ p → ⊥) → get_or Last s 0 ≡ suc j → i ≤ l → l < length (get_or numbers p [])
        → HasNoneBetween r numbers s j p l → (s ≡ q) ⊎ (s ≡ q → ⊥)
        → IsReceivedUpTo More (length More) (message_id s j)
    latest s j l other at le in_l none (inl same) =
        let here : get_or Last s 0 ≡ suc k = get_or-set_at last q s (suc k) 0 same in_last in
        let rank : k ≡ j = omega arith in
        subst (λ (x : ℕ). IsReceivedUpTo More (length More) (message_id x j)) (sym same)
        (subst (λ (x : ℕ). IsReceivedUpTo More (length More) (message_id q x)) rank
        (all_longer (received_new events (receipt_of q k) (message_id q k) refl)))
    latest s j l other at le in_l none (inr differ) =
        all_longer (received_later More (length events) (suc (length events)) (message_id s j) (omega arith)
        (received_stays events (receipt_of q k) (length events) (message_id s j)
        (plan.latest s j l other (sym (get_or-set_other last q s (suc k) 0 differ) ∙ at) le in_l none)))

    once : (s j : ℕ) → IsReceivedUpTo events (length events) (message_id s j)
        × IsReceivedUpTo events (length More) (message_id s j)
        ⊎ ((suc (length events) ≤ length More) × (Receive (message_id q k) ≡ Receive (message_id s j)))
        → (s ≡ q) ⊎ (s ≡ q → ⊥) → j < get_or Last s 0
    once s j (inl has) (inl same) =
        let here : get_or Last s 0 ≡ suc k = get_or-set_at last q s (suc k) 0 same in_last in
        let low : j < get_or last s 0 = plan.once s j has.0 in
        let at : get_or last s 0 ≡ get_or last q 0 = ap (λ (x : ℕ). get_or last x 0) same in omega arith
    once s j (inl has) (inr differ) =
        subst (λ (x : ℕ). j < x) (sym (get_or-set_other last q s (suc k) 0 differ)) (plan.once s j has.0)
    once s j (inr has) (inl same) =
        let here : get_or Last s 0 ≡ suc k = get_or-set_at last q s (suc k) 0 same in_last in
        let kinds : Receive (message_id q k) ≡ Receive (message_id s j) = has.1 in
        let ids : message_id q k ≡ message_id s j = cc in
        let rank : k ≡ j = (same_message q k s j ids).1 in omega arith
    once s j (inr has) (inr differ) =
        let kinds : Receive (message_id q k) ≡ Receive (message_id s j) = has.1 in
        let ids : message_id q k ≡ message_id s j = cc in
        absurd (differ (sym (same_message q k s j ids).0))

    pub receipt_more : IsPlanned names r vars numbers p i More Last
    receipt_more = record {
      places = plan.places;
      as_many = plan.as_many;
      long = length-set last q (suc k) ∙ plan.long;
      ascend = plan.ascend;
      within = λ l d lt. let low : get_or plan.places l d ≤ length events = plan.within l d lt in
          omega (arith, longer);
      images = images;
      receipts = λ n event at out. receipts n event out (numbered_more events (receipt_of q k) n event at);
      needed = λ l s j lt other in_j before most none.
          received_stays events (receipt_of q k) (get_or plan.places l 0) (message_id s j)
          (plan.needed l s j lt other in_j before most none);
      known = λ s j l other le in_l in_j lt. known s j l other le in_l in_j lt (cases_eq s q);
      few = λ s other. few s other (cases_eq s q);
      latest = λ s j l other at le in_l none. latest s j l other at le in_l none (cases_eq s q);
      once = λ s j has.
          once s j (received_more events (receipt_of q k) (length More) (message_id s j) has) (cases_eq s q);
      fit = All-push (FitsProcess names p) events (receipt_of q k) plan.fit
          (record { ascend = tt; known = λ l d lt. absurd (omega arith) });
    }

    -- ---- or the message needn't be received

    passed_latest : ComesThrough r numbers p i q (suc k) → (s j l : ℕ) → (s ≡ p → ⊥) → get_or Last s 0 ≡ suc j → i ≤ l
        → l < length (get_or numbers p []) → HasNoneBetween r numbers s j p l → (s ≡ q) ⊎ (s ≡ q → ⊥)
        → IsReceivedUpTo events (length events) (message_id s j)
    passed_latest through s j l other at le in_l none (inl same) =
        let here : get_or Last s 0 ≡ suc k = get_or-set_at last q s (suc k) 0 same in_last in
        let rank : j ≡ k = omega arith in
        absurd (through k refl in_q (λ t m in_t first second.
        subst (λ (x : ℕ). HasNoneBetween r numbers x k p l) same
        (subst (λ (x : ℕ). HasNoneBetween r numbers s x p l) rank none) t m in_t first
        (before_later r numbers are p t m i l le in_l second)))
    passed_latest through s j l other at le in_l none (inr differ) =
        plan.latest s j l other (sym (get_or-set_other last q s (suc k) 0 differ) ∙ at) le in_l none

    passed_once : (s j : ℕ) → j < get_or last s 0 → (s ≡ q) ⊎ (s ≡ q → ⊥) → j < get_or Last s 0
    passed_once s j lt (inl same) =
        let here : get_or Last s 0 ≡ suc k = get_or-set_at last q s (suc k) 0 same in_last in
        let at : get_or last s 0 ≡ get_or last q 0 = ap (λ (x : ℕ). get_or last x 0) same in omega arith
    passed_once s j lt (inr differ) =
        subst (λ (x : ℕ). j < x) (sym (get_or-set_other last q s (suc k) 0 differ)) lt

    pub passed_more : ComesThrough r numbers p i q (suc k) → IsPlanned names r vars numbers p i events Last
    passed_more through = record {
      places = plan.places;
      as_many = plan.as_many;
      long = length-set last q (suc k) ∙ plan.long;
      ascend = plan.ascend;
      within = plan.within;
      images = plan.images;
      receipts = plan.receipts;
      needed = plan.needed;
      known = λ s j l other le in_l in_j lt. known s j l other le in_l in_j lt (cases_eq s q);
      few = λ s other. few s other (cases_eq s q);
      latest = λ s j l other at le in_l none. passed_latest through s j l other at le in_l none (cases_eq s q);
      once = λ s j has. passed_once s j (plan.once s j has) (cases_eq s q);
      fit = plan.fit;
    }
