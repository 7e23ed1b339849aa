-- Which fault is reported, from what is noted.
use Rattle.std.proofs.Common.{◌≡◌, ◌≢◌, ℕ, zero, suc, List, length, Option, Some, None, option_map, ◌≤◌, refl, sym, ◌∙◌, ap, subst, inl, inr, ◌⊎◌, ◌↔◌, arith}
use Rattle.std.specs.Prelude.{not, is_some, true, false, IfSome}
use Rattle.std.proofs.Math.Dec.{eqb-suc-zero, eqb-zero-suc}
use Rattle.std.proofs.lemmas.Bool.{eqb-false, eqb-true, false≢true}
use Rattle.std.proofs.lemmas.Option.{same_Some}
use Rattle.def_model.specs.Events.{Send, Receive, Computation, Place, IsBefore, kind_at, event_count}
use Rattle.def_model.specs.Messages.{Version, One, Two, IsSameReceiver, Fault, SendTwice, Orphan, SelfMessage, ReceivedTwice, IsSentAgain, IsOrphan, IsSelfMessage, IsReceivedAgain, IsBadReceipt, orphan, self_message, received_again, IsReported, IsMessage, HasLawfulMessages}
use Rattle.def_model.proofs.Chains.{event_from_kind}
use Rattle.pd_match.specs.declared.place.Place as matches
use Rattle.pd_match.specs.Views.{place_view}
use Rattle.pd_match.specs.Noted.{event_place, again, HasBefore, HasAll, HasReceived, IsReceivedBefore, NoneBadBefore, IsReportedOf}
use Rattle.pd_match.proofs.Places.{not_before_itself, before_transitive, before_next, before_process_end, none_before_first, each_before_end}

pub same_send : (x y : List ℕ) → Send x ≡ Send y → x ≡ y
same_send x y e = cc

pub same_receive : (x y : List ℕ) → Receive x ≡ Receive y → x ≡ y
same_receive x y e = cc

pub none_from_test : {A : Type 0} (o : Option A) → is_some o ≡ false → o ≡ None
none_from_test None e = refl
none_from_test (Some x) e = absurd (false≢true (sym e))

-- no send stands twice before a place before which each has its own place
none_again : (c : Computation) (here : Place) (noted : List ℕ → Option Place) → HasBefore Send c here noted
    → (d : Place) → IsBefore d here → ¬ IsSentAgain c d
none_again c here noted has d before again =
    let one : noted again.0 ≡ Some d = (has again.0 d).1 (again.2, before) in
    let two : noted again.0 ≡ Some again.1 =
    (has again.0 again.1).1 (again.3, before_transitive again.1 d here again.4 before) in
    not_before_itself d (subst (λ f. IsBefore f d) (same_Some _ _ (sym two ∙ one)) again.4)

pub sent_twice : (c : Computation) (here : Place) (noted : List ℕ → Option Place) (id : List ℕ)
    → HasBefore Send c here noted → kind_at c here ≡ Some (Send id) → is_some (noted id) ≡ true
    → (version : Version) → IsReported version c (SendTwice here)
sent_twice c here noted id has is found version = go (noted id) refl found
  where
    go : (o : Option Place) → noted id ≡ o → is_some o ≡ true → IsReported version c (SendTwice here)
    go None e some = absurd (false≢true some)
    go (Some d) e some =
        let w = (has id d).0 e in
        ((id, d, is, w.0, w.1), none_again c here noted has)

pub sent_once : (c : Computation) (noted : List ℕ → Option Place) → HasAll Send c noted → (d : Place)
    → ¬ IsSentAgain c d
sent_once c noted has d again =
    let one : noted again.0 ≡ Some d = (has again.0 d).1 again.2 in
    let two : noted again.0 ≡ Some again.1 = (has again.0 again.1).1 again.3 in
    not_before_itself d (subst (λ f. IsBefore f d) (same_Some _ _ (sym two ∙ one)) again.4)

-- what a receipt has for its fault
kind_of_bad : (version : Version) (c : Computation) (e : Place) → IsBadReceipt version c e → (id : List ℕ)
    × (kind_at c e ≡ Some (Receive id))
kind_of_bad version c e (orphan w) = (w.0, w.1)
kind_of_bad version c e (self_message w) = (w.0, w.2)
kind_of_bad version c e (received_again w) = (w.0, w.2)

one_id : (c : Computation) (e : Place) (x y : List ℕ) → kind_at c e ≡ Some (Receive x) → kind_at c e ≡ Some (Receive y)
    → x ≡ y
one_id c e x y a b = same_receive x y (same_Some _ _ (sym a ∙ b))

pub other_is_good : (version : Version) (c : Computation) (e : Place)
    → ((id : List ℕ) → ¬ (kind_at c e ≡ Some (Receive id))) → ¬ IsBadReceipt version c e
other_is_good version c e not bad = let w = kind_of_bad version c e bad in not w.0 w.1

module _ (version : Version) (c : Computation) (here : Place) (id : List ℕ) (sent : List ℕ → Option Place)
    (last : List ℕ → ℕ) (has : HasAll Send c sent) (before : HasReceived c here last)
    (is : kind_at c here ≡ Some (Receive id)) where
  not_orphan : (send : Place) → sent id ≡ Some send → ¬ IsOrphan c here
  not_orphan send found w =
      let same : id ≡ w.0 = one_id c here id w.0 is w.1 in
      w.2 send ((has w.0 send).0 (ap sent (sym same) ∙ found))

  not_self : (send : Place) → sent id ≡ Some send → send.process ≢ here.process → ¬ IsSelfMessage c here
  not_self send found apart w =
      let same : id ≡ w.0 = one_id c here id w.0 is w.2 in
      let other : sent w.0 ≡ Some w.1 = (has w.0 w.1).1 w.3 in
      let one : w.1 ≡ send = same_Some _ _ (sym other ∙ (ap sent (sym same) ∙ found)) in
      apart (ap (λ (d : Place). d.process) (sym one) ∙ w.4)

  -- a second receipt is seen by the last one: places go from process to process
  not_again : again version (last id) here.process ≡ false → ¬ IsReceivedAgain version c here
  not_again fresh w =
      let same : id ≡ w.0 = one_id c here id w.0 is w.2 in
      let seen = before.latest id w.1 (w.3 ∙ ap (λ x. Some (Receive x)) (sym same), w.4) in
      go version seen.0 (before.found id seen.0 seen.1) seen.2 w.5
      (ap (λ n. again version n here.process) (sym seen.1) ∙ fresh)
    where
      up_to : (d : Place) → IsBefore d here → d.process ≤ here.process
      up_to d (inl lt) = omega arith
      up_to d (inr (e, lt)) = omega arith

      go : (v : Version) (q : ℕ) → (d : Place) × IsReceivedBefore c here id d × (d.process ≡ q) → w.1.process ≤ q
          → IsSameReceiver v w.1 here → again v (suc q) here.process ≡ false → ⊥
      go One q first le same e = false≢true (sym e ∙ ap not (eqb-suc-zero q))
      go Two q first le same e =
          let up : first.0.process ≤ here.process = up_to first.0 first.1.1 in
          let at : first.0.process ≡ q = first.2 in
          let one : suc q ≡ suc here.process = omega (arith, same, le, up, at) in
          eqb-false (suc q) (suc here.process) e one

  pub receipt_is_good : (send : Place) → sent id ≡ Some send → send.process ≢ here.process
      → again version (last id) here.process ≡ false → ¬ IsBadReceipt version c here
  receipt_is_good send found apart fresh (orphan w) = not_orphan send found w
  receipt_is_good send found apart fresh (self_message w) = not_self send found apart w
  receipt_is_good send found apart fresh (received_again w) = not_again fresh w

  pub sender_is : (send : Place) → sent id ≡ Some send → send.process ≢ here.process → (d : Place)
      → (Some send ≡ Some d) ↔ IsMessage c d here
  sender_is send found apart d = (
    λ e. subst (λ f. IsMessage c f here) (same_Some _ _ e) (id, (has id send).0 found, is, apart),
    λ m. let same : id ≡ m.0 = one_id c here id m.0 is m.2 in
        let other : sent m.0 ≡ Some d = (has m.0 d).1 m.1 in
        sym found ∙ (ap sent same ∙ other),
  )

  received : (v : Version) (n : ℕ) → last id ≡ n → again v n here.process ≡ true → IsReceivedAgain v c here
  received One zero at e = absurd (false≢true e)
  received One (suc q) at e = let w = before.found id q at in (id, w.0, is, w.1.0, w.1.1, tt)
  received Two zero at e = absurd (false≢true (sym (eqb-zero-suc here.process) ∙ e))
  received Two (suc q) at e =
      let same : suc q ≡ suc here.process = eqb-true (suc q) (suc here.process) e in
      let w = before.found id q at in
      let process : w.0.process ≡ q = w.2 in
      (id, w.0, is, w.1.0, w.1.1, omega (arith, same, process))

  pub receipt_fault : NoneBadBefore version c here → (reported : Option Fault)
      → IsReportedOf (sent id) (again version (last id) here.process) here reported
      → IfSome reported (IsReported version c)
  receipt_fault good None h = tt
  receipt_fault good (Some (SendTwice e)) h = absurd h
  receipt_fault good (Some (Orphan e)) h =
      let w : IsOrphan c here =
      (id, is, λ d s. let found : sent id ≡ Some d = (has id d).1 s in let none : sent id ≡ None = h.1 in cc) in
      subst (λ f. IsReported version c (Orphan f)) (sym h.0) (sent_once c sent has, (orphan w, good), w)
  receipt_fault good (Some (SelfMessage e)) h =
      let w : IsSelfMessage c here = (id, h.1.0, is, (has id h.1.0).0 h.1.1, h.1.2) in
      subst (λ f. IsReported version c (SelfMessage f)) (sym h.0) (
        sent_once c sent has,
        (self_message w, good),
        not_orphan h.1.0 h.1.1,
        w,
      )
  receipt_fault good (Some (ReceivedTwice e)) h =
      let w : IsReceivedAgain version c here = received version (last id) refl h.2 in
      subst (λ f. IsReported version c (ReceivedTwice f)) (sym h.0) (
        sent_once c sent has,
        (received_again w, good),
        not_orphan h.1.0 h.1.1,
        not_self h.1.0 h.1.1 h.1.2,
        w,
      )

-- a send that is found has a number
pub send_numbered : (c : Computation) (here : Place) (send : Option matches.Place)
    → ((d : Place) → (option_map place_view send ≡ Some d) ↔ IsMessage c d here)
    → IfSome send (λ (place : matches.Place). 1 ≤ place.number)
send_numbered c here None is = tt
send_numbered c here (Some place) is =
    let m = (is (place_view place)).0 refl in
    (event_from_kind c (place_view place) (Send m.0) m.1).0

-- no receipt has a fault, step by step
pub none_bad_first : (version : Version) (c : Computation) → NoneBadBefore version c (event_place 0 0)
none_bad_first version c d before bad =
    let w = kind_of_bad version c d bad in
    none_before_first c d (event_from_kind c d (Receive w.0) w.1) before

pub none_bad_next : (version : Version) (c : Computation) (p n : ℕ) → NoneBadBefore version c (event_place p n)
    → ¬ IsBadReceipt version c (event_place p n) → NoneBadBefore version c (event_place p (suc n))
none_bad_next version c p n good here d before = go (before_next d p n before)
  where
    go : IsBefore d (event_place p n) ⊎ (d ≡ event_place p n) → ¬ IsBadReceipt version c d
    go (inl b) = good d b
    go (inr e) = subst (λ f. ¬ IsBadReceipt version c f) (sym e) here

pub none_bad_process : (version : Version) (c : Computation) (p : ℕ)
    → NoneBadBefore version c (event_place p (event_count c p)) → NoneBadBefore version c (event_place (suc p) 0)
none_bad_process version c p good d before bad =
    let w = kind_of_bad version c d bad in
    good d (before_process_end c d p (event_from_kind c d (Receive w.0) w.1) before) bad

pub lawful : (version : Version) (c : Computation) (sent : List ℕ → Option Place) → HasAll Send c sent
    → NoneBadBefore version c (event_place (length c) 0) → HasLawfulMessages version c
lawful version c sent has good = record {
  sent_once = sent_once c sent has;
  received_well = λ e bad. let w = kind_of_bad version c e bad in
      good e (each_before_end c e (event_from_kind c e (Receive w.0) w.1)) bad;
}
