-- The events of a process grow by an image, begin with none, and are whole when each kept event has its image.
use Rattle.std.proofs.Common.{◌≡◌, ℕ, zero, suc, ◌+◌, ◌<◌, ◌≤◌, ◌⊎◌, inl, inr, List, [], ◌∷◌, ◌++◌, length, get_or, Some, Contains, refl, sym, ap, ◌∙◌, subst, arith}
use Rattle.std.proofs.lemmas.Bool.{cases_lt}
use Rattle.std.proofs.lemmas.List.{get_or_append_left, get_or_past, get_or_push}
use Rattle.std.proofs.lemmas.List.Elements.{All-push, Contains-append_left, Contains-push}
use Rattle.std.proofs.lemmas.List.Quantifiers.{all_pairs_push}
use Rattle.def_format.specs.Names.{ProcessNames}
use Rattle.def_format.specs.ReadingLaws.{FitsProcess}
use Rattle.def_model.specs.Events.{Event, Receive, Send, numbered}
use Rattle.def_model.specs.Order.{HappenedBefore}
use Rattle.def_model.specs.Predicates.{Recorded}
use Rattle.judge_reduced.specs.Planned.{AllKnown, IsKnown, IsPlanned}
use Rattle.judge_reduced.specs.Plans.{HasNoneBetween, AreReduced, IsImage, IsReceipt, IsReceivedUpTo, kept_place, message_id}
use Rattle.judge_reduced.proofs.Appended.{numbered_more, numbered_new, numbered_stays, one_longer, receipt_stays, received_later, received_more, received_stays}

send_of_receive : (id id' : List ℕ) → Send id ≡ Receive id' → ⊥
send_of_receive id id' same = cc

module _ (names : List ProcessNames) (r : Recorded) (vars : List ℕ) (numbers : List (List ℕ)) (p i : ℕ)
    (events : List Event) (last : List ℕ) (plan : IsPlanned names r vars numbers p i events last)
    (all : AllKnown r numbers p i last (length numbers)) (event : Event) (image : IsImage r vars numbers p i event)
    (fits : FitsProcess names p event)
    (in_p : i < length (get_or numbers p [])) where
  abbrev More : List Event
  More = events ++ event ∷ []

  abbrev Places : List ℕ
  Places = plan.places ++ suc (length events) ∷ []

  longer : length More ≡ length events + 1
  longer = one_longer events event

  place_before : (l : ℕ) → l < length plan.places → get_or Places l 0 ≡ get_or plan.places l 0
  place_before l lt = get_or_append_left plan.places (suc (length events) ∷ []) 0 l lt

  place_here : (l : ℕ) → length plan.places ≡ l → get_or Places l 0 ≡ suc (length events)
  place_here l same = get_or_push plan.places (suc (length events)) 0 l same

  more_places : length Places ≡ length plan.places + 1
  more_places = one_longer plan.places (suc (length events))

  images : (l : ℕ) → l < length Places → (l < length plan.places) ⊎ (length plan.places ≤ l) → (e : Event)
      × (numbered More (get_or Places l 0) ≡ Some e) × IsImage r vars numbers p l e
  images l lt (inl less) = go (plan.images l less)
    where
      go : (e : Event) × (numbered events (get_or plan.places l 0) ≡ Some e) × IsImage r vars numbers p l e
          → (e : Event) × (numbered More (get_or Places l 0) ≡ Some e) × IsImage r vars numbers p l e
      go (e, at, is) = (
        e,
        ap (numbered More) (place_before l less)
            ∙ numbered_stays events event (get_or plan.places l 0) e at,
        is,
      )
  images l lt (inr ge) =
      let many : length plan.places ≡ i = plan.as_many in
      let more : length Places ≡ length plan.places + 1 = more_places in
      let here : length plan.places ≡ l = omega arith in
      let rank : i ≡ l = omega arith in (
        event,
        ap (numbered More) (place_here l here) ∙ numbered_new events event,
        subst (λ (k : ℕ). IsImage r vars numbers p k event) rank image,
      )

  receipt_with_place : (n : ℕ) (e : Event) → IsReceipt r numbers p More plan.places n e
      → IsReceipt r numbers p More Places n e
  receipt_with_place n e receipt = record {
    process = receipt.process;
    rank = receipt.rank;
    there = receipt.there;
    other = receipt.other;
    receives = receipt.receives;
    sets_nothing = receipt.sets_nothing;
    before = λ l in_l high. receipt.before l in_l (λ lt.
        subst (λ (x : ℕ). n ≤ x) (place_before l lt)
        (high (let more : length Places ≡ length plan.places + 1 = more_places in omega arith)));
    once = receipt.once;
  }

  receipts : (n : ℕ) (e : Event) → (Contains Places n → ⊥) → ((n ≤ length events) × (numbered events n ≡ Some e))
      ⊎ ((n ≡ suc (length events)) × (event ≡ e)) → IsReceipt r numbers p More Places n e
  receipts n e out (inl old) =
      receipt_with_place n e
      (receipt_stays r numbers p events event plan.places n e old.0
      (plan.receipts n e old.1 (λ has. out (Contains-append_left plan.places (suc (length events) ∷ []) n has))))
  receipts n e out (inr new) =
      absurd (out (subst (Contains Places) (sym new.0) (Contains-push plan.places (suc (length events)))))

  low_process : (q k : ℕ) → k < length (get_or numbers q []) → q < length numbers
  low_process q k lt = go (cases_lt q (length numbers))
    where
      go : (q < length numbers) ⊎ (length numbers ≤ q) → q < length numbers
      go (inl low) = low
      go (inr past) =
          let none : length (get_or numbers q []) ≡ 0 = ap length (get_or_past numbers q [] past) in
          absurd (omega arith)

  -- the latest event of another process that happened before is the last one whose message was received
  needed_here : (q k : ℕ) → (q ≡ p → ⊥) → k < length (get_or numbers q [])
      → HappenedBefore r.events (kept_place numbers q k) (kept_place numbers p i)
      → ((j : ℕ) → j < length (get_or numbers q [])
      → HappenedBefore r.events (kept_place numbers q j) (kept_place numbers p i) → j ≤ k)
      → HasNoneBetween r numbers q k p i → IsReceivedUpTo events (length events) (message_id q k)
  needed_here q k other in_q before most none = go (get_or last q 0) refl
    where
      is_known : IsKnown r numbers p i q (get_or last q 0)
      is_known = all q (low_process q k in_q) other

      go : (n : ℕ) → get_or last q 0 ≡ n → IsReceivedUpTo events (length events) (message_id q k)
      go zero at = let lt : k < get_or last q 0 = (is_known.just k in_q).1 before in absurd (omega arith)
      go (suc j) at =
          let lt : k < get_or last q 0 = (is_known.just k in_q).1 before in
          let few : get_or last q 0 ≤ length (get_or numbers q []) = is_known.there in
          let le : j ≤ k = most j (omega arith) ((is_known.just j (omega arith)).0 (omega arith)) in
          let same : j ≡ k = omega arith in
          subst (λ (x : ℕ). IsReceivedUpTo events (length events) (message_id q x)) same
          (plan.latest q j i other at (omega arith) in_p
          (subst (λ (x : ℕ). HasNoneBetween r numbers q x p i) (sym same) none))

  needed : (l q k : ℕ) → l < length Places → (q ≡ p → ⊥) → k < length (get_or numbers q [])
      → HappenedBefore r.events (kept_place numbers q k) (kept_place numbers p l)
      → ((j : ℕ) → j < length (get_or numbers q [])
      → HappenedBefore r.events (kept_place numbers q j) (kept_place numbers p l) → j ≤ k)
      → HasNoneBetween r numbers q k p l → (l < length plan.places) ⊎ (length plan.places ≤ l)
      → IsReceivedUpTo More (get_or Places l 0) (message_id q k)
  needed l q k lt other in_q before most none (inl less) =
      subst (λ (x : ℕ). IsReceivedUpTo More x (message_id q k)) (sym (place_before l less))
      (received_stays events event (get_or plan.places l 0) (message_id q k)
      (plan.needed l q k less other in_q before most none))
  needed l q k lt other in_q before most none (inr ge) =
      let many : length plan.places ≡ i = plan.as_many in
      let more : length Places ≡ length plan.places + 1 = more_places in
      let here : length plan.places ≡ l = omega arith in
      let rank : l ≡ i = omega arith in
      subst (λ (x : ℕ). IsReceivedUpTo More x (message_id q k)) (sym (place_here l here))
      (received_later More (length events) (suc (length events)) (message_id q k) (omega arith)
      (received_stays events event (length events) (message_id q k)
      (subst (λ (x : ℕ). HappenedBefore r.events (kept_place numbers q k) (kept_place numbers p x)
      → ((j : ℕ) → j < length (get_or numbers q [])
      → HappenedBefore r.events (kept_place numbers q j) (kept_place numbers p x) → j ≤ k)
      → HasNoneBetween r numbers q k p x → IsReceivedUpTo events (length events) (message_id q k)) (sym rank)
      (needed_here q k other in_q) before most none)))

  once : (q j : ℕ) → IsReceivedUpTo events (length events) (message_id q j)
      × IsReceivedUpTo events (length More) (message_id q j)
      ⊎ ((suc (length events) ≤ length More) × (event.kind ≡ Receive (message_id q j))) → j < get_or last q 0
  once q j (inl has) = plan.once q j has.0
  once q j (inr has) = absurd (send_of_receive (message_id p i) (message_id q j) (sym image.sends ∙ has.1))

  pub image_more : IsPlanned names r vars numbers p (i + 1) More last
  image_more = record {
    places = Places;
    as_many = more_places ∙ ap (λ (k : ℕ). k + 1) plan.as_many;
    long = plan.long;
    ascend = all_pairs_push (λ (m n : ℕ). m < n) plan.places (suc (length events)) plan.ascend (λ k d lt.
        let low : get_or plan.places k d ≤ length events = plan.within k d lt in omega arith);
    within = All-push (λ (n : ℕ). n ≤ length More) plan.places (suc (length events)) (λ k d lt.
        let low : get_or plan.places k d ≤ length events = plan.within k d lt in omega (arith, longer))
        (omega (arith, longer));
    images = λ l lt. images l lt (cases_lt l (length plan.places));
    receipts = λ n e at out. receipts n e out (numbered_more events event n e at);
    needed = λ l q k lt other in_q before most none.
        needed l q k lt other in_q before most none (cases_lt l (length plan.places));
    known = λ q j l other le in_l in_j lt. plan.known q j l other (omega arith) in_l in_j lt;
    few = plan.few;
    latest = λ q k l other at le in_l none.
        received_later More (length events) (length More) (message_id q k) (omega (arith, longer))
        (received_stays events event (length events) (message_id q k)
        (plan.latest q k l other at (omega arith) in_l none));
    once = λ q j has. once q j (received_more events event (length More) (message_id q j) has);
    fit = All-push (FitsProcess names p) events event plan.fit fits;
  }

-- no event yet
pub planned_none : (names : List ProcessNames) (r : Recorded) (vars : List ℕ) (numbers : List (List ℕ)) (p : ℕ)
    (last : List ℕ) → length last ≡ length numbers → ((q : ℕ) → get_or last q 0 ≡ 0)
    → IsPlanned names r vars numbers p 0 [] last
planned_none names r vars numbers p last long zeros = record {
  places = [];
  as_many = refl;
  long = long;
  ascend = λ k l d lt in_l. absurd (omega arith);
  within = λ k d lt. absurd (omega arith);
  images = λ k lt. absurd (omega arith);
  receipts = λ n e at out. absurd (none_numbered n e at);
  needed = λ l q k lt other in_q before most none. absurd (omega arith);
  known = λ q j l other le in_l in_j lt. absurd (omega (arith, zeros q));
  few = λ q other. omega (arith, zeros q);
  latest = λ q k l other at le in_l none. absurd (omega (arith, zeros q));
  once = λ q j has. absurd (none_received (message_id q j) has);
  fit = λ k d lt. absurd (omega arith);
}
  where
    none_numbered : (n : ℕ) (e : Event) → numbered [] n ≡ Some e → ⊥
    none_numbered zero e at = cc
    none_numbered (suc n) e at = cc

    none_received : (id : List ℕ) → IsReceivedUpTo [] 0 id → ⊥
    none_received id (zero, le, has) = cc
    none_received id (suc m, le, has) = cc

-- each kept event has its image
pub planned_all : (names : List ProcessNames) (r : Recorded) (vars : List ℕ) (numbers : List (List ℕ)) (p i : ℕ)
    (events : List Event) (last : List ℕ) → (plan : IsPlanned names r vars numbers p i events last)
    → i ≡ length (get_or numbers p []) → AreReduced r vars numbers p events plan.places
planned_all names r vars numbers p i events last plan all = record {
  as_many = plan.as_many ∙ all;
  ascend = plan.ascend;
  images = plan.images;
  receipts = plan.receipts;
  needed = plan.needed;
}
