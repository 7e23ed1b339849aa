-- One process more of which all is known.
use Rattle.std.proofs.Common.{Bool, true, false, ◌≡◌, ℕ, zero, suc, ◌+◌, ◌<◌, ◌≤◌, ◌⊎◌, inl, inr, List, [], length, get_or, set, refl, sym, ap, ◌∙◌, subst, arith, ◌↔◌}
use Rattle.std.proofs.lemmas.Bool.{cases_eq, cases_lt}
use Rattle.std.proofs.lemmas.Grind.{get_or-set_at}
use Rattle.std.proofs.lemmas.List.{get_or-set_other, length-set}
use Rattle.def_format.specs.Names.{ProcessNames}
use Rattle.def_model.specs.Events.{Event, IsEvent, Place}
use Rattle.def_model.specs.Order.{HappenedBefore, IsClock, IsUpTo}
use Rattle.def_model.specs.Predicates.{Recorded}
use Rattle.def_orders.specs.Orders.{count_up_to}
use Rattle.def_orders.proofs.Ranks.{count_within, first_ones}
use Rattle.judge_reduced.specs.Planned.{ComesThrough, AllKnown, AreListed, GoesOn, HasReceived, IsKnown, IsPlanned}
use Rattle.judge_reduced.specs.Plans.{kept_place}
use Rattle.judge_reduced.proofs.Planning.{passed_more, receipt_more}

-- what the column has at the event's clock
pub known_by_clock : (r : Recorded) (numbers : List (List ℕ)) → AreListed r.events numbers → (p i q n count : ℕ)
    → (q ≡ p → ⊥) → IsClock r.events (kept_place numbers p i) q n → count ≡ count_up_to (get_or numbers q []) n
    → IsKnown r numbers p i q count
known_by_clock r numbers are p i q n count apart clock is = record {
  there = subst (λ (k : ℕ). k ≤ length (get_or numbers q [])) (sym is) (count_within (get_or numbers q []) n);
  just = λ j in_q.
      subst (λ (k : ℕ). (j < k) ↔ HappenedBefore r.events (kept_place numbers q j) (kept_place numbers p i)) (sym is)
      (to j in_q, from j in_q);
}
  where
    before : (j : ℕ) → IsUpTo r.events (kept_place numbers q j) (kept_place numbers p i)
        → HappenedBefore r.events (kept_place numbers q j) (kept_place numbers p i)
    before j (inl same) = absurd (apart (ap (λ (e : Place). e.process) same))
    before j (inr h) = h

    to : (j : ℕ) → j < length (get_or numbers q []) → j < count_up_to (get_or numbers q []) n
        → HappenedBefore r.events (kept_place numbers q j) (kept_place numbers p i)
    to j in_q lt =
        let is_event : IsEvent r.events (kept_place numbers q j) = are.events q j 0 in_q in
        before j
        ((clock.past (get_or (get_or numbers q []) j 0) is_event.0 is_event.1).0
        ((first_ones (get_or numbers q []) (are.ascend q) n j in_q).1 lt))

    from : (j : ℕ) → j < length (get_or numbers q [])
        → HappenedBefore r.events (kept_place numbers q j) (kept_place numbers p i)
        → j < count_up_to (get_or numbers q []) n
    from j in_q h =
        let is_event : IsEvent r.events (kept_place numbers q j) = are.events q j 0 in_q in
        (first_ones (get_or numbers q []) (are.ascend q) n j in_q).0
        ((clock.past (get_or (get_or numbers q []) j 0) is_event.0 is_event.1).1 (inr h))

module _ (r : Recorded) (numbers : List (List ℕ)) (p i q count : ℕ) (events events' : List Event)
    (last last' : List ℕ) (are : AreListed r.events numbers) (apart : q ≡ p → ⊥) (there : q < length numbers)
    (in_p : i < length (get_or numbers p [])) (is_known : IsKnown r numbers p i q count)
    (through : Bool) (comes : through ≡ true → ComesThrough r numbers p i q count)
    (received : HasReceived q count through last last' events events') (names : List ProcessNames) (vars : List ℕ)
    (plan : IsPlanned names r vars numbers p i events last) (known : AllKnown r numbers p i last q) where
  -- as much is known as was, or more
  at_least : get_or last q 0 ≤ count
  at_least = go (cases_lt count (get_or last q 0))
    where
      go : (count < get_or last q 0) ⊎ (get_or last q 0 ≤ count) → get_or last q 0 ≤ count
      go (inr le) = le
      go (inl lt) = pick (cases_lt count (length (get_or numbers q [])))
        where
          pick : (count < length (get_or numbers q [])) ⊎ (length (get_or numbers q []) ≤ count)
              → get_or last q 0 ≤ count
          pick (inl in_q) =
              let more : count < count =
              (is_known.just count in_q).1 (plan.known q count i apart (omega arith) in_p in_q lt) in
              absurd (omega arith)
          pick (inr past) = let most : get_or last q 0 ≤ length (get_or numbers q []) = plan.few q apart in omega arith

  longer : (s : ℕ) → s < q + 1 → (s ≡ p → ⊥) → get_or last' q 0 ≡ count
      → ((s ≡ q → ⊥) → get_or last' s 0 ≡ get_or last s 0) → (s ≡ q) ⊎ (s ≡ q → ⊥)
      → IsKnown r numbers p i s (get_or last' s 0)
  longer s lt other here stays (inl same) =
      subst (λ (x : ℕ). IsKnown r numbers p i x (get_or last' x 0)) (sym same)
      (subst (IsKnown r numbers p i q) (sym here) is_known)
  longer s lt other here stays (inr differ) =
      subst (IsKnown r numbers p i s) (sym (stays differ)) (known s (omega arith) other)

  all_same : count ≤ get_or last q 0 → IsPlanned names r vars numbers p i events' last'
      × AllKnown r numbers p i last' (q + 1)
  all_same le =
      let same : (last' ≡ last) × (events' ≡ events) = received.same le in (
        subst (λ (l : List ℕ). IsPlanned names r vars numbers p i events' l) (sym same.0)
            (subst (λ (xs : List Event). IsPlanned names r vars numbers p i xs last) (sym same.1) plan),
        λ s lt other. longer s lt other
            (ap (λ (l : List ℕ). get_or l q 0) same.0 ∙ (let low : get_or last q 0 ≤ count = at_least in omega arith))
            (λ differ. ap (λ (l : List ℕ). get_or l s 0) same.0) (cases_eq s q),
      )

  all_set : last' ≡ set last q count → AllKnown r numbers p i last' (q + 1)
  all_set new = λ s l other. longer s l other
      (ap (λ (l : List ℕ). get_or l q 0) new
      ∙ get_or-set_at last q q count 0 refl (let many : length last ≡ length numbers = plan.long in omega arith))
      (λ differ. ap (λ (l : List ℕ). get_or l s 0) new ∙ get_or-set_other last q s count 0 differ) (cases_eq s q)

  one_more : (n : ℕ) → count ≡ n → get_or last q 0 < n → (b : Bool) → through ≡ b
      → IsPlanned names r vars numbers p i events' last' × AllKnown r numbers p i last' (q + 1)
  one_more zero at lt b is = absurd (omega arith)
  one_more (suc k) at lt true is =
      let new = received.passed (omega arith) is in (
        subst (λ (l : List ℕ). IsPlanned names r vars numbers p i events' l) (sym (new.0 ∙ ap (set last q) at))
            (subst (λ (xs : List Event). IsPlanned names r vars numbers p i xs (set last q (suc k))) (sym new.1)
            (passed_more names r vars numbers p i events last plan are q k apart there in_p
            (subst (IsKnown r numbers p i q) at is_known) (omega arith)
            (subst (ComesThrough r numbers p i q) at (comes is)))),
        all_set new.0,
      )
  one_more (suc k) at lt false is =
      let new = received.more k at (omega arith) is in (
        subst (λ (l : List ℕ). IsPlanned names r vars numbers p i events' l)
            (sym (new.0 ∙ ap (set last q) at))
            (subst (λ (xs : List Event). IsPlanned names r vars numbers p i xs (set last q (suc k))) (sym new.1)
            (receipt_more names r vars numbers p i events last plan are q k apart there in_p
            (subst (IsKnown r numbers p i q) at is_known) (omega arith))),
        all_set new.0,
      )

  pub known_more : IsPlanned names r vars numbers p i events' last' × AllKnown r numbers p i last' (q + 1)
  known_more = go (cases_lt (get_or last q 0) count)
    where
      go : (get_or last q 0 < count) ⊎ (count ≤ get_or last q 0) → IsPlanned names r vars numbers p i events' last'
          × AllKnown r numbers p i last' (q + 1)
      go (inl lt) = one_more count refl lt through refl
      go (inr le) = all_same le

-- p itself is passed over
pub own_known : (r : Recorded) (numbers : List (List ℕ)) (p i : ℕ) (last : List ℕ)
    → AllKnown r numbers p i last p → AllKnown r numbers p i last (p + 1)
own_known r numbers p i last known s lt other = go (cases_lt s p)
  where
    go : (s < p) ⊎ (p ≤ s) → IsKnown r numbers p i s (get_or last s 0)
    go (inl less) = known s less other
    go (inr ge) = absurd (other (let le : p ≤ s = ge in omega arith))

-- the plan goes on by one process more
pub goes_on : (r : Recorded) (numbers : List (List ℕ)) (p i q count : ℕ) (through : Bool)
    (first events events' : List Event) (begin last last' : List ℕ) → AreListed r.events numbers
    → (q ≡ p → ⊥) → q < length numbers → i < length (get_or numbers p []) → IsKnown r numbers p i q count
    → (through ≡ true → ComesThrough r numbers p i q count)
    → HasReceived q count through last last' events events' → GoesOn r numbers p i q first events begin last
    → GoesOn r numbers p i (q + 1) first events' begin last'
goes_on r numbers p i q count through first events events' begin last last' are apart there in_p is_known comes
    received goes =
    λ names vars plan. let now = goes names vars plan in
    known_more r numbers p i q count events events' last last' are apart there in_p is_known through comes received
    names vars now.0 now.1

pub own_goes_on : (r : Recorded) (numbers : List (List ℕ)) (p i q : ℕ) (first events : List Event)
    (begin last : List ℕ) → q ≡ p → GoesOn r numbers p i q first events begin last
    → GoesOn r numbers p i (q + 1) first events begin last
own_goes_on r numbers p i q first events begin last same goes =
    λ names vars plan. let now = goes names vars plan in (
      now.0,
      subst (λ (k : ℕ). AllKnown r numbers p i last (k + 1)) (sym same)
          (own_known r numbers p i last (subst (AllKnown r numbers p i last) same now.1)),
    )

pub received_length : (q count : ℕ) (through : Bool) (last last' : List ℕ) (events events' : List Event)
    → HasReceived q count through last last' events events' → length last' ≡ length last
received_length q count through last last' events events' received =
    go count refl (cases_lt (get_or last q 0) count) through refl
  where
    go : (n : ℕ) → count ≡ n → (get_or last q 0 < count) ⊎ (count ≤ get_or last q 0) → (b : Bool) → through ≡ b
        → length last' ≡ length last
    go n at (inr le) b is = ap length (received.same le).0
    go zero at (inl lt) b is = absurd (omega arith)
    go (suc k) at (inl lt) true is = ap length (received.passed lt is).0 ∙ length-set last q count
    go (suc k) at (inl lt) false is = ap length (received.more k at (omega arith) is).0 ∙ length-set last q count

-- What is known of a process through a kept event of another one comes through that.
pub through_between : (r : Recorded) (numbers : List (List ℕ)) (p i q s m known count : ℕ)
    → m < length (get_or numbers s []) → HappenedBefore r.events (kept_place numbers s m) (kept_place numbers p i)
    → IsKnown r numbers s m q count → known ≤ count → ComesThrough r numbers p i q known
through_between r numbers p i q s m known count in_s second is_known le k at in_q none =
    none s m in_s ((is_known.just k in_q).0 (omega arith)) second
