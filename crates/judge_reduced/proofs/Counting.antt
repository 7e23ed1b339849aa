-- How many events there are.
use Rattle.std.proofs.Common.{Bool, true, false, ◌≡◌, ℕ, zero, suc, ◌+◌, ◌*◌, ◌<◌, ◌≤◌, ◌⊎◌, inl, inr, List, [], ◌∷◌, ◌++◌, length, get_or, ℤ, AllPairs, refl, ap, ◌∙◌, arith}
use Rattle.std.proofs.Math.Nat.{mul-le-mul_right}
use Rattle.std.proofs.lemmas.Bool.{cases_lt}
use Rattle.def_model.specs.Events.{Event, event_count}
use Rattle.def_model.specs.Predicates.{Recorded}
use Rattle.def_orders.specs.Orders.{AreKept}
use Rattle.judge_reduced.specs.Bounds.{FewEventsFewKept}
use Rattle.judge_reduced.specs.Planned.{AddsImage, HasReceived}
use Rattle.judge_reduced.proofs.Appended.{one_longer}

-- ---- the receipts before an image

-- there is at most one event more for each process that was looked at, but p
abbrev pub HasFew : (old now p q : ℕ) → Type 0
HasFew old now p q = (q ≤ p → now ≤ old + q) × (p < q → now + 1 ≤ old + q)

pub few_more : (old now next p q : ℕ) → HasFew old now p q → next ≤ now + 1 → (q ≡ p → ⊥) → HasFew old next p (q + 1)
few_more old now next p q few one apart = (
  λ le. let before : now ≤ old + q = few.0 (omega (arith, le)) in omega (arith, one, before),
  λ lt. later lt (cases_lt p q),
)
  where
    later : p < q + 1 → (p < q) ⊎ (q ≤ p) → next + 1 ≤ old + (q + 1)
    later lt (inl less) = let before : now + 1 ≤ old + q = few.1 less in omega (arith, one, before)
    later lt (inr ge) = absurd (apart (omega (arith, lt, ge)))

pub few_own : (old now p q : ℕ) → HasFew old now p q → q ≡ p → HasFew old now p (q + 1)
few_own old now p q few same = (
  λ le. absurd (omega (arith, le, same)),
  λ lt. let before : now ≤ old + q = few.0 (omega (arith, same)) in omega (arith, before),
)

-- a receipt more, or none
pub received_few : (q count : ℕ) (through : Bool) (last last' : List ℕ) (events events' : List Event)
    → HasReceived q count through last last' events events' → length events' ≤ length events + 1
received_few q count through last last' events events' received =
    go count refl (cases_lt (get_or last q 0) count) through refl
  where
    same_few : events' ≡ events → length events' ≤ length events + 1
    same_few same =
        let long : length events' ≡ length events = ap (λ (xs : List Event). length xs) same in omega (arith, long)

    more_few : (e : Event) → events' ≡ events ++ e ∷ [] → length events' ≤ length events + 1
    more_few e more =
        let long : length events' ≡ length events + 1 =
        ap (λ (xs : List Event). length xs) more ∙ one_longer events e in omega (arith, long)

    go : (n : ℕ) → count ≡ n → (get_or last q 0 < count) ⊎ (count ≤ get_or last q 0) → (b : Bool) → through ≡ b
        → length events' ≤ length events + 1
    go n at (inr le) b is = same_few (received.same le).1
    go zero at (inl lt) b is = absurd (omega arith)
    go (suc k) at (inl lt) true is = same_few (received.passed lt is).1
    go (suc k) at (inl lt) false is = more_few _ (received.more k at (omega arith) is).1

-- ---- the events of a process

-- an image and the receipts before it are no more than the processes
pub image_few : (worth : ℕ → ℤ) (vars : List ℕ) (count p i processes : ℕ) (before now later : List Event)
    → AddsImage worth vars count p i now later → length now + 1 ≤ length before + processes
    → length before ≤ i * processes → length later ≤ (i + 1) * processes
image_few worth vars count p i processes before now later adds one few =
    let long : length later ≡ length now + 1 =
    ap (λ (xs : List Event). length xs) adds.is ∙ one_longer now _ in omega (arith, long, one, few)

-- ---- kept events are events

above_place : (numbers : List ℕ) → AllPairs (λ (m n : ℕ). m < n) numbers
    → ((i d : ℕ) → i < length numbers → 1 ≤ get_or numbers i d) → (i : ℕ) → i < length numbers → i < get_or numbers i 0
above_place numbers ascend some zero lt = some 0 0 lt
above_place numbers ascend some (suc i) lt =
    let before : i < get_or numbers i 0 = above_place numbers ascend some i (omega (arith, lt)) in
    let next : get_or numbers i 0 < get_or numbers (suc i) 0 = ascend i (suc i) 0 (omega arith) lt in
    omega (arith, before, next)

kept_within : (r : Recorded) (p : ℕ) (vars numbers : List ℕ) → AreKept r p vars numbers
    → length numbers ≤ event_count r.events p
kept_within r p vars numbers kept = go (length numbers) refl
  where
    go : (n : ℕ) → length numbers ≡ n → length numbers ≤ event_count r.events p
    go zero many = omega (arith, many)
    go (suc k) many =
        let above : k < get_or numbers k 0 =
        above_place numbers kept.ascend (λ i d lt. (kept.events i d lt).0) k (omega (arith, many)) in
        let within : get_or numbers k 0 ≤ event_count r.events p = (kept.events k 0 (omega (arith, many))).1 in
        omega (arith, many, above, within)

pub few_events_few_kept : FewEventsFewKept
few_events_few_kept document r few numbers are p lt =
    let fewer : length (get_or numbers p []) * length r.events ≤ event_count r.events p * length r.events =
    mul-le-mul_right (length r.events)
    (kept_within r p (get_or are.named p []) (get_or numbers p []) (are.kept p lt)) in
    omega (arith, fewer, few p lt)
