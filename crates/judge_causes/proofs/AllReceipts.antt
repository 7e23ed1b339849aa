-- The list of all receipts.
use Rattle.std.proofs.Common.{◌≡◌, ℕ, zero, suc, ◌+◌, false, inl, inr, List, [], ◌∷◌, ◌++◌, All, Option, Some, refl, ap, sym, subst, arith}
use Rattle.std.specs.Prelude.{AllPairs, Contains, option_map, slice_get}
use Rattle.std.proofs.lemmas.List.Elements.{All-append, All-cons, All-nil, Contains-append_left, Contains-append_right}
use Rattle.std.proofs.lemmas.List.Kept.{AllPairs-cons}
use Rattle.def_model.specs.Events.{Kind, Local, Send, Receive, Event, Computation, IsBefore, Place, place}
use Rattle.def_model.specs.Messages.{Receives}
use Rattle.def_model.specs.Observations.{Possibly}
use Rattle.def_model.specs.Predicates.{Predicate, Recorded, test_of}
use Rattle.judge_causes.specs.Causes.{AreCauses, IsReceipt}
use Rattle.judge_causes.specs.Receipts.{all_receipts, receipt_if, receipts_from}
use Rattle.judge_causes.proofs.ReducedCuts.{all_enough}

kind_in : List Event → ℕ → Option Kind
kind_in events k = option_map (λ (event : Event). event.kind) (slice_get events k)

step_place : (p n k : ℕ) → place p (suc (suc n + k)) ≡ place p (suc (n + suc k))
step_place p n k = let e : suc n + k ≡ n + suc k = omega arith in ap (λ (m : ℕ). place p (suc m)) e

here_place : (p n : ℕ) → place p (suc n) ≡ place p (suc (n + 0))
here_place p n = let e : n ≡ n + 0 = omega arith in ap (λ (m : ℕ). place p (suc m)) e

step_process : (q p n : ℕ) → place (suc q + p) n ≡ place (q + suc p) n
step_process q p n = let e : suc q + p ≡ q + suc p = omega arith in ap (λ (m : ℕ). place m n) e

first_place : (q k : ℕ) → place q (suc (0 + k)) ≡ place (q + 0) (suc k)
first_place q k =
    let e : q ≡ q + 0 = omega arith in let f : 0 + k ≡ k = omega arith in
    rw (sym e, f) refl

-- ---- each receipt is in the list

in_events : (p n k : ℕ) (events : List Event) (id : List ℕ)
    → option_map (λ (event : Event). event.kind) (slice_get events k) ≡ Some (Receive id)
    → Contains (receipts_from p n events) (place p (suc (n + k)))
in_events p n k [] id is = absurd (cc)
in_events p n zero (event ∷ rest) id is =
    let kind : event.kind ≡ Receive id = cc in
    subst (λ (k : Kind). Contains (receipt_if (place p (suc n)) k ++ receipts_from p (suc n) rest)
    (place p (suc (n + 0)))) (sym kind) (0, omega arith, here_place p n)
in_events p n (suc k) (event ∷ rest) id is =
    Contains-append_right (receipt_if (place p (suc n)) event.kind) (receipts_from p (suc n) rest)
    (place p (suc (n + suc k)))
    (subst (Contains (receipts_from p (suc n) rest)) (step_place p n k) (in_events p (suc n) k rest id is))

in_processes : (q p n : ℕ) (c : Computation) (id : List ℕ) → Receives c (place p n) id
    → Contains (all_receipts q c) (place (q + p) n)
in_processes q p zero [] id is = absurd (cc)
in_processes q p (suc n) [] id is = absurd (cc)
in_processes q zero zero (events ∷ rest) id is = absurd (cc)
in_processes q zero (suc k) (events ∷ rest) id is =
    Contains-append_left (receipts_from q 0 events) (all_receipts (suc q) rest) (place (q + 0) (suc k))
    (subst (Contains (receipts_from q 0 events)) (first_place q k) (in_events q 0 k events id is))
in_processes q (suc p) n (events ∷ rest) id is =
    Contains-append_right (receipts_from q 0 events) (all_receipts (suc q) rest) (place (q + suc p) n)
    (subst (Contains (all_receipts (suc q) rest)) (step_process q p n) (in_processes (suc q) p n rest id is))

contains_all : (c : Computation) (e : Place) (id : List ℕ) → Receives c e id → Contains (all_receipts 0 c) e
contains_all c e id is =
    let same : 0 + e.process ≡ e.process = omega arith in
    subst (λ (p : ℕ). Contains (all_receipts 0 c) (place p e.number)) same (in_processes 0 e.process e.number c id is)

-- ---- and no other

each_event : (P : Place → Type 0) (p n : ℕ) (events : List Event)
    → ((k : ℕ) (id : List ℕ) → option_map (λ (event : Event). event.kind) (slice_get events k) ≡ Some (Receive id)
    → P (place p (suc (n + k)))) → All P (receipts_from p n events)
each_event P p n [] each = All-nil P
each_event P p n (event ∷ rest) each =
    All-append P (receipt_if (place p (suc n)) event.kind) (receipts_from p (suc n) rest)
    (first event.kind (λ id is. each 0 id (ap Some is)))
    (each_event P p (suc n) rest (λ k id is. subst P (sym (step_place p n k)) (each (suc k) id is)))
  where
    first : (kind : Kind) → ((id : List ℕ) → kind ≡ Receive id → P (place p (suc (n + 0))))
        → All P (receipt_if (place p (suc n)) kind)
    first Local here = All-nil P
    first (Send id) here = All-nil P
    first (Receive id) here =
        All-cons P (place p (suc n)) [] (subst P (sym (here_place p n)) (here id refl)) (All-nil P)

each_process : (P : Place → Type 0) (q : ℕ) (c : Computation)
    → ((p n : ℕ) (id : List ℕ) → Receives c (place p n) id → P (place (q + p) n)) → All P (all_receipts q c)
each_process P q [] each = All-nil P
each_process P q (events ∷ rest) each =
    All-append P (receipts_from q 0 events) (all_receipts (suc q) rest)
    (each_event P q 0 events (λ k id is. subst P (sym (first_place q k)) (each 0 (suc k) id is)))
    (each_process P (suc q) rest (λ p n id is. subst P (sym (step_process q p n)) (each (suc p) n id is)))

-- ---- in the order of their places

pairs_append : (R : Place → Place → Type 0) (xs ys : List Place) → AllPairs R xs → AllPairs R ys
    → All (λ x. All (R x) ys) xs → AllPairs R (xs ++ ys)
pairs_append R [] ys first second cross = second
pairs_append R (x ∷ xs) ys first second cross =
    AllPairs-cons R x (xs ++ ys)
    (All-append (R x) xs ys (λ k d lt. first 0 (suc k) d (omega arith) (omega (arith, lt))) (cross 0 x (omega arith)))
    (pairs_append R xs ys (λ i j d lt within. first (suc i) (suc j) d (omega (arith, lt)) (omega (arith, within)))
    second (λ k d lt. cross (suc k) d (omega (arith, lt))))

events_ascend : (p n : ℕ) (events : List Event) → AllPairs IsBefore (receipts_from p n events)
events_ascend p n [] = λ i j d lt within. absurd (omega (arith, lt, within))
events_ascend p n (event ∷ rest) =
    pairs_append IsBefore (receipt_if (place p (suc n)) event.kind) (receipts_from p (suc n) rest)
    (alone event.kind) (events_ascend p (suc n) rest) (after event.kind)
  where
    alone : (kind : Kind) → AllPairs IsBefore (receipt_if (place p (suc n)) kind)
    alone Local i j d lt within = absurd (omega (arith, lt, within))
    alone (Send id) i j d lt within = absurd (omega (arith, lt, within))
    alone (Receive id) i j d lt within = absurd (omega (arith, lt, within))

    later : All (IsBefore (place p (suc n))) (receipts_from p (suc n) rest)
    later = each_event (IsBefore (place p (suc n))) p (suc n) rest (λ k id is. inr (refl, omega arith))

    after : (kind : Kind)
        → All (λ x. All (IsBefore x) (receipts_from p (suc n) rest)) (receipt_if (place p (suc n)) kind)
    after Local = All-nil (λ x. All (IsBefore x) (receipts_from p (suc n) rest))
    after (Send id) = All-nil (λ x. All (IsBefore x) (receipts_from p (suc n) rest))
    after (Receive id) =
        All-cons (λ x. All (IsBefore x) (receipts_from p (suc n) rest)) (place p (suc n)) [] later
        (All-nil (λ x. All (IsBefore x) (receipts_from p (suc n) rest)))

processes_ascend : (q : ℕ) (c : Computation) → AllPairs IsBefore (all_receipts q c)
processes_ascend q [] = λ i j d lt within. absurd (omega (arith, lt, within))
processes_ascend q (events ∷ rest) =
    pairs_append IsBefore (receipts_from q 0 events) (all_receipts (suc q) rest) (events_ascend q 0 events)
    (processes_ascend (suc q) rest)
    (each_event (λ x. All (IsBefore x) (all_receipts (suc q) rest)) q 0 events
    (λ k id is. each_process (IsBefore (place q (suc (0 + k)))) (suc q) rest (λ p n other at. inl (omega arith))))

-- ---- so all receipts are enough where no consistent cut satisfies

pub all_are_causes : (r : Recorded) (predicate : Predicate) (receipts : List Place)
    → receipts ≡ all_receipts 0 r.events → (¬ Possibly r.events (test_of r predicate))
    → AreCauses r predicate receipts false
all_are_causes r predicate receipts is none =
    subst (λ (l : List Place). AreCauses r predicate l false) (sym is) (record {
      enough = all_enough r predicate (Contains (all_receipts 0 r.events)) (contains_all r.events) none;
      received = each_process (IsReceipt r.events) 0 r.events (λ p n id at.
          let same : p ≡ 0 + p = omega arith in
          subst (λ (q : ℕ). IsReceipt r.events (place q n)) same (id, at));
      ascending = processes_ascend 0 r.events;
      needed = λ sure. absurd (cc);
    })
