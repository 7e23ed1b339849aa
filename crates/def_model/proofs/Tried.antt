-- The examples of the definitions.
use Rattle.std.proofs.Common.{◌≡◌, ℕ, zero, suc, ◌+◌, ◌<◌, ◌≤◌, Bool, true, false, List, [], ◌∷◌, length, get_or, sum, Some, refl, sym, ap, subst, inl, inr, ◌⊎◌, arith}
use Rattle.def_model.specs.Events.{Send, Receive, Place, place, IsBefore, kind_at, event_count}
use Rattle.def_model.specs.Order.{LeadsTo, HappenedBefore, IsStuck, IsFirstStuck, HasEachProcessOnce, IsWellFormed}
use Rattle.def_model.specs.Cuts.{Includes, IsConsistent}
use Rattle.def_model.specs.Predicates.{satisfies}
use Rattle.def_model.specs.Observations.{Possibly, IsAvoiding, HasNoAvoiding}
use Rattle.def_model.specs.Answers.{LexBelow}
use Rattle.def_model.specs.Examples.{zeros, up_and_down, one_message, equals, both, skew, crossed, BothAtOnce, NoReceiptAlone, AvoidedUpToTwo, CycleOfReceipts}
use Rattle.def_model.specs.Messages.{IsSentAgain, Version, IsBadReceipt, orphan, self_message, received_again}
use Rattle.std.proofs.lemmas.Bool.{false≢true}
use Rattle.def_model.proofs.Counts.{sum_cons}
use Rattle.def_model.proofs.Consistency.{closed_from_messages}
use Rattle.def_model.proofs.Chains.{step_happens, events_of_happens}
use Rattle.def_model.proofs.Stuck.{stuck_exactly, none_stuck}
use Rattle.def_model.proofs.Walks.{Reached, reached_from_avoiding, avoiding_from_reached, reached_level, reached_fails, reached_consistent}

no_sends : (p n : ℕ) (id : List ℕ) → ¬ (kind_at up_and_down (place p n) ≡ Some (Send id))
no_sends zero zero id e = cc
no_sends zero (suc zero) id e = cc
no_sends zero (suc (suc zero)) id e = cc
no_sends zero (suc (suc (suc n))) id e = cc
no_sends (suc zero) zero id e = cc
no_sends (suc zero) (suc zero) id e = cc
no_sends (suc zero) (suc (suc zero)) id e = cc
no_sends (suc zero) (suc (suc (suc n))) id e = cc
no_sends (suc (suc p)) zero id e = cc
no_sends (suc (suc p)) (suc n) id e = cc

-- counts up to two and two are consistent
consistent : (a b : ℕ) → a ≤ 2 → b ≤ 2 → IsConsistent up_and_down (a ∷ b ∷ [])
consistent a b ha hb =
    record {
      fits = record { one_each = refl; within = within };
      closed = closed_from_messages up_and_down (a ∷ b ∷ []) (λ s r m. absurd (no_sends s.process s.number m.0 m.1));
    }
  where
    within : (p : ℕ) → get_or (a ∷ b ∷ []) p 0 ≤ event_count up_and_down p
    within zero = ha
    within (suc zero) = hb
    within (suc (suc p)) = omega arith

-- a consistent cut has two counts up to two
counts : (cut : List ℕ) → IsConsistent up_and_down cut → (a : ℕ) × (b : ℕ) × (cut ≡ a ∷ b ∷ []) × (a ≤ 2) × (b ≤ 2)
counts [] ok = absurd (let e : 0 ≡ 2 = ok.fits.one_each in omega arith)
counts (a ∷ []) ok = absurd (let e : 1 ≡ 2 = ok.fits.one_each in omega arith)
counts (a ∷ b ∷ []) ok = (a, b, refl, ok.fits.within 0, ok.fits.within 1)
counts (a ∷ b ∷ d ∷ more) ok =
    absurd (let e : length (a ∷ b ∷ d ∷ more) ≡ 2 = ok.fits.one_each in omega arith)

-- where both are 1
both_at : (a b : ℕ) → a ≤ 2 → b ≤ 2 → satisfies zeros up_and_down both (a ∷ b ∷ []) ≡ true → (a ≡ 1) × (b ≡ 1)
both_at zero b ha hb e = cc
both_at (suc zero) zero ha hb e = cc
both_at (suc zero) (suc zero) ha hb e = (refl, refl)
both_at (suc zero) (suc (suc zero)) ha hb e = cc
both_at (suc zero) (suc (suc (suc b))) ha hb e = absurd (omega arith)
both_at (suc (suc zero)) b ha hb e = cc
both_at (suc (suc (suc a))) b ha hb e = absurd (omega arith)

pub both_at_once : BothAtOnce
both_at_once =
    record {
      consistent = consistent 1 1 (omega arith) (omega arith);
      satisfies = refl;
      first = λ other ok yes' apart. only other (counts other ok) yes' apart;
    }
  where
    only : (other : List ℕ) → (a : ℕ) × (b : ℕ) × (other ≡ a ∷ b ∷ []) × (a ≤ 2) × (b ≤ 2)
        → satisfies zeros up_and_down both other ≡ true → ¬ (other ≡ 1 ∷ 1 ∷ []) → (sum (1 ∷ 1 ∷ []) < sum other)
        ⊎ ((sum (1 ∷ 1 ∷ []) ≡ sum other) × LexBelow (1 ∷ 1 ∷ []) other)
    only other (a, b, e, ha, hb) yes' apart =
        let w : (a ≡ 1) × (b ≡ 1) =
        both_at a b ha hb (subst (λ (x : List ℕ). satisfies zeros up_and_down both x ≡ true) e yes') in
        let a1 : a ≡ 1 = w.0 in
        let b1 : b ≡ 1 = w.1 in
        absurd (apart (cc))

pub no_receipt_alone : NoReceiptAlone
no_receipt_alone =
    (happened, (λ ok. alone 0 1 (omega arith) (omega arith) ok), refl, none)
  where
    happened : HappenedBefore one_message (place 0 1) (place 1 1)
    happened = step_happens one_message (place 0 1) (place 1 1) (inr (109 ∷ [], refl, refl, (λ e. omega arith)))

    alone : (a b : ℕ) → a ≡ 0 → 1 ≤ b → ¬ IsConsistent one_message (a ∷ b ∷ [])
    alone a b ea hb ok =
        let i : Includes (a ∷ b ∷ []) (place 0 1) = ok.closed (place 0 1) (place 1 1) happened (omega arith, hb) in
        let h : 1 ≤ a = i.1 in
        omega arith

    skew_at : (a b : ℕ) → a ≤ 1 → b ≤ 1 → satisfies zeros one_message skew (a ∷ b ∷ []) ≡ true → (a ≡ 0) × (1 ≤ b)
    skew_at zero zero ha hb e = cc
    skew_at zero (suc b) ha hb e = (refl, omega arith)
    skew_at (suc zero) b ha hb e = cc
    skew_at (suc (suc a)) b ha hb e = absurd (omega arith)

    none : ¬ Possibly one_message (satisfies zeros one_message skew)
    none ([], ok, yes') = absurd (let e : 0 ≡ 2 = ok.fits.one_each in omega arith)
    none (a ∷ [], ok, yes') = absurd (let e : 1 ≡ 2 = ok.fits.one_each in omega arith)
    none (a ∷ b ∷ [], ok, yes') =
        let w : (a ≡ 0) × (1 ≤ b) = skew_at a b (ok.fits.within 0) (ok.fits.within 1) yes' in alone a b w.0 w.1 ok
    none (a ∷ b ∷ d ∷ more, ok, yes') =
        absurd (let e : length (a ∷ b ∷ d ∷ more) ≡ 2 = ok.fits.one_each in omega arith)

-- whether the first variable is 1
abbrev first_is : List ℕ → Bool
first_is = satisfies zeros up_and_down (equals 0 1)

-- the cuts with no event of the first process are avoiding
avoids_zero : Reached up_and_down first_is 0 (0 ∷ 0 ∷ [])
avoids_zero = (consistent 0 0 (omega arith) (omega arith), refl, refl)

avoids_one : Reached up_and_down first_is 1 (0 ∷ 1 ∷ [])
avoids_one =
    (consistent 0 1 (omega arith) (omega arith), refl, (1, omega arith, (omega arith, avoids_zero)))

avoids_two : Reached up_and_down first_is 2 (0 ∷ 2 ∷ [])
avoids_two =
    (consistent 0 2 (omega arith) (omega arith), refl, (1, omega arith, (omega arith, avoids_one)))

-- both events of the first process can't be avoided at once
not_two_zero : ¬ Reached up_and_down first_is 2 (2 ∷ 0 ∷ [])
not_two_zero (ok, fails, (zero, lt, (has, back))) =
    let e : true ≡ false = reached_fails up_and_down first_is 1 (1 ∷ 0 ∷ []) back in cc
not_two_zero (ok, fails, (suc zero, lt, (has, back))) = omega arith
not_two_zero (ok, fails, (suc (suc p), lt, (has, back))) = omega arith

not_two_one : ¬ Reached up_and_down first_is 3 (2 ∷ 1 ∷ [])
not_two_one (ok, fails, (zero, lt, (has, back))) =
    let e : true ≡ false = reached_fails up_and_down first_is 2 (1 ∷ 1 ∷ []) back in cc
not_two_one (ok, fails, (suc zero, lt, (has, back))) = not_two_zero back
not_two_one (ok, fails, (suc (suc p), lt, (has, back))) = omega arith

none_at_three : (a b : ℕ) → a ≤ 2 → b ≤ 2 → a + b ≡ 3 → ¬ Reached up_and_down first_is 3 (a ∷ b ∷ [])
none_at_three zero b ha hb s r = omega arith
none_at_three (suc zero) b ha hb s r =
    let e : true ≡ false = reached_fails up_and_down first_is 3 (1 ∷ b ∷ []) r in cc
none_at_three (suc (suc zero)) b ha hb s r =
    let one : b ≡ 1 = omega arith in not_two_one (subst (λ (n : ℕ). Reached up_and_down first_is 3 (2 ∷ n ∷ [])) one r)
none_at_three (suc (suc (suc a))) b ha hb s r = omega arith

pub avoided_up_to_two : AvoidedUpToTwo
avoided_up_to_two =
    (avoiding_from_reached up_and_down first_is 2 (0 ∷ 2 ∷ []) avoids_two, record { none = none; below = below })
  where
    at : (cut : List ℕ) → Reached up_and_down first_is 3 cut → (a : ℕ) × (b : ℕ) × (cut ≡ a ∷ b ∷ []) × (a ≤ 2)
        × (b ≤ 2) → ⊥
    at cut r (a, b, e, ha, hb) =
        let q : Reached up_and_down first_is 3 (a ∷ b ∷ []) =
        subst (λ (x : List ℕ). Reached up_and_down first_is 3 x) e r in
        let s : sum (a ∷ b ∷ []) ≡ 3 = reached_level up_and_down first_is 3 (a ∷ b ∷ []) q in
        let t : sum (a ∷ b ∷ []) ≡ a + sum (b ∷ []) = sum_cons a (b ∷ []) in
        let u : sum (b ∷ []) ≡ b + sum [] = sum_cons b [] in
        none_at_three a b ha hb (omega arith) q

    none : HasNoAvoiding up_and_down first_is 3
    none cut a =
        let r : Reached up_and_down first_is 3 cut = reached_from_avoiding up_and_down first_is 3 cut a in
        at cut r (counts cut (reached_consistent up_and_down first_is 3 cut r))

    below : (j : ℕ) → j < 3 → (cut : List ℕ) × IsAvoiding up_and_down first_is j cut
    below zero lt = (0 ∷ 0 ∷ [], avoiding_from_reached up_and_down first_is 0 (0 ∷ 0 ∷ []) avoids_zero)
    below (suc zero) lt = (0 ∷ 1 ∷ [], avoiding_from_reached up_and_down first_is 1 (0 ∷ 1 ∷ []) avoids_one)
    below (suc (suc zero)) lt = (0 ∷ 2 ∷ [], avoiding_from_reached up_and_down first_is 2 (0 ∷ 2 ∷ []) avoids_two)
    below (suc (suc (suc j))) lt = absurd (omega arith)

-- the only send is the first process's only event, and the only receipt the second's
only_send : (p n : ℕ) (id : List ℕ) → kind_at one_message (place p n) ≡ Some (Send id) → (p ≡ 0) × (n ≡ 1)
only_send zero zero id e = cc
only_send zero (suc zero) id e = (refl, refl)
only_send zero (suc (suc n)) id e = cc
only_send (suc zero) zero id e = cc
only_send (suc zero) (suc zero) id e = cc
only_send (suc zero) (suc (suc n)) id e = cc
only_send (suc (suc p)) zero id e = cc
only_send (suc (suc p)) (suc n) id e = cc

only_receipt : (p n : ℕ) (id : List ℕ) → kind_at one_message (place p n) ≡ Some (Receive id) → (p ≡ 1) × (n ≡ 1)
    × (id ≡ 109 ∷ [])
only_receipt zero zero id e = cc
only_receipt zero (suc zero) id e = cc
only_receipt zero (suc (suc n)) id e = cc
only_receipt (suc zero) zero id e = cc
only_receipt (suc zero) (suc zero) id e = (refl, refl, cc)
only_receipt (suc zero) (suc (suc n)) id e = cc
only_receipt (suc (suc p)) zero id e = cc
only_receipt (suc (suc p)) (suc n) id e = cc

one_event_each : (p : ℕ) → event_count one_message p ≤ 1
one_event_each zero = omega arith
one_event_each (suc zero) = omega arith
one_event_each (suc (suc p)) = omega arith

well_formed : (version : Version) → IsWellFormed version one_message
well_formed version =
    record {
      messages = record { sent_once = sent_once; received_well = received_well };
      no_cycle =
          (none_stuck one_message).1 (λ e s. false≢true
          ((stuck_exactly one_message (λ x. false) (λ x. x.process) (λ x t. absurd (false≢true t)) ordered e).1 s));
    }
  where
    sent_once : (e : Place) → ¬ IsSentAgain one_message e
    sent_once e (id, d, se, sd, before) =
        let a : (e.process ≡ 0) × (e.number ≡ 1) = only_send e.process e.number id se in
        let b : (d.process ≡ 0) × (d.number ≡ 1) = only_send d.process d.number id sd in
        clash before a b
      where
        clash : IsBefore d e → (e.process ≡ 0) × (e.number ≡ 1) → (d.process ≡ 0) × (d.number ≡ 1) → ⊥
        clash (inl lt) a b = omega arith
        clash (inr w) a b = omega arith

    received_well : (e : Place) → ¬ IsBadReceipt version one_message e
    received_well e (orphan (id, re, none)) =
        let a : (e.process ≡ 1) × (e.number ≡ 1) × (id ≡ 109 ∷ []) = only_receipt e.process e.number id re in
        none (place 0 1) (ap (λ (x : List ℕ). Some (Send x)) (sym a.2))
    received_well e (self_message (id, d, re, sd, same)) =
        let a : (e.process ≡ 1) × (e.number ≡ 1) × (id ≡ 109 ∷ []) = only_receipt e.process e.number id re in
        let b : (d.process ≡ 0) × (d.number ≡ 1) = only_send d.process d.number id sd in
        let x : e.process ≡ 1 = a.0 in
        let y : d.process ≡ 0 = b.0 in
        omega arith
    received_well e (received_again (id, d, re, rd, before, again)) =
        let a : (e.process ≡ 1) × (e.number ≡ 1) × (id ≡ 109 ∷ []) = only_receipt e.process e.number id re in
        let b : (d.process ≡ 1) × (d.number ≡ 1) × (id ≡ 109 ∷ []) = only_receipt d.process d.number id rd in
        clash before a.0 a.1 b.0 b.1
      where
        clash : IsBefore d e → e.process ≡ 1 → e.number ≡ 1 → d.process ≡ 1 → d.number ≡ 1 → ⊥
        clash (inl lt) a b x y = omega arith
        clash (inr w) a b x y = omega arith

    ordered : (d e : Place) → LeadsTo one_message d e → false ≡ false → (false ≡ false) × (d.process < e.process)
    ordered d e (inl (is, at, same, less)) t =
        let a : e.number ≤ event_count one_message e.process = at.1 in
        let b : event_count one_message e.process ≤ 1 = one_event_each e.process in
        let l : 1 ≤ d.number = is.0 in
        absurd (omega arith)
    ordered d e (inr (id, sends, receives, apart)) t =
        let a : (e.process ≡ 1) × (e.number ≡ 1) × (id ≡ 109 ∷ []) = only_receipt e.process e.number id receives in
        let b : (d.process ≡ 0) × (d.number ≡ 1) = only_send d.process d.number id sends in
        let x : e.process ≡ 1 = a.0 in
        let y : d.process ≡ 0 = b.0 in
        (refl, omega arith)

-- the four events of the crossed messages in a circle
circle : HappenedBefore crossed (place 0 1) (place 0 1) × HappenedBefore crossed (place 0 1) (place 1 1)
circle = (
  (place 0 2 ∷ place 1 1 ∷ place 1 2 ∷ [], (own_a, (m, (own_b, (k, tt))))),
  (place 0 2 ∷ [], (own_a, (m, tt))),
)
  where
    own_a : LeadsTo crossed (place 0 1) (place 0 2)
    own_a = inl ((omega arith, omega arith), (omega arith, omega arith), refl, omega arith)

    own_b : LeadsTo crossed (place 1 1) (place 1 2)
    own_b = inl ((omega arith, omega arith), (omega arith, omega arith), refl, omega arith)

    m : LeadsTo crossed (place 0 2) (place 1 1)
    m = inr (109 ∷ [], refl, refl, (λ e. omega arith))

    k : LeadsTo crossed (place 1 2) (place 0 1)
    k = inr (107 ∷ [], refl, refl, (λ e. omega arith))

pub cycle_of_receipts : CycleOfReceipts
cycle_of_receipts = (
  well_formed,
  record {
    before = [];
    start = place 0 1;
    starts = refl;
    first = place 0 1;
    begins = refl;
    least = (first_a, λ f lt s. omega arith);
    steps = (
      (first_b, (place 1 2, (107 ∷ [], refl, refl, (λ e. omega arith)), refl)),
      ((first_a, (place 0 2, (109 ∷ [], refl, refl, (λ e. omega arith)), refl)), tt),
    );
    once = once;
  },
)
  where
    not_zero : (p n : ℕ) → n < 1 → ¬ IsStuck crossed (place p n)
    not_zero p n lt (f, cycle, h) =
        let is : 1 ≤ n = ((events_of_happens crossed f (place p n) h).1).0 in omega arith

    first_a : IsFirstStuck crossed (place 0 1)
    first_a = ((place 0 1, circle.0, circle.0), λ n lt. not_zero 0 n lt)

    first_b : IsFirstStuck crossed (place 1 1)
    first_b = ((place 0 1, circle.0, circle.1), λ n lt. not_zero 1 n lt)

    once : HasEachProcessOnce (place 0 1 ∷ place 1 1 ∷ [])
    once zero zero d lt within same = omega arith
    once zero (suc zero) d lt within same = omega arith
    once zero (suc (suc j)) d lt within same = omega arith
    once (suc i) zero d lt within same = omega arith
    once (suc i) (suc zero) d lt within same = omega arith
    once (suc i) (suc (suc j)) d lt within same = omega arith
