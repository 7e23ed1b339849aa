-- What an event needs: its send, if it is a receipt, and else nothing.
use Rattle.std.proofs.Common.{◌≡◌, ℕ, ◌+◌, ◌<◌, ◌≤◌, ◌↔◌, List, length, get_or, refl, sym, ap, subst, arith}
use Rattle.std.specs.Prelude.{Some, None}
use Rattle.std.proofs.lemmas.Option.{same_Some, none-some}
use Rattle.def_model.specs.Cuts.{IsConsistent, one_more}
use Rattle.def_model.specs.Events as events
use Rattle.def_model.specs.Events.{Computation, Send, IsEvent, event_count, place}
use Rattle.def_model.specs.Messages.{IsMessage}
use Rattle.def_model.proofs.AddedEvents.{HasSend, added, one_more_exactly}
use Rattle.def_model.proofs.Chains.{event_from_kind}
use Rattle.def_model.proofs.Consistency.{process_in_range}
use Rattle.pd_match.specs.Views.{place_view}
use Rattle.pd_match.specs.declared.place.Place.{Place}
use Rattle.pd_clock.specs.Senders.{IsSender}
use Rattle.def_format.specs.Limits.{event_limit}
use Rattle.walk_runs.specs.Needs.{IsNeed}
use Rattle.walk_runs.proofs.need.need_after.Goals as goal

-- the send of a receipt is an event
sent : (c : Computation) (p n : ℕ) (send : Place) → IsSender c (place p (n + 1)) (Some send)
    → IsMessage c (place_view send) (place p (n + 1)) × IsEvent c (place_view send) × (send.process < length c)
sent c p n send sender =
    let message : IsMessage c (place_view send) (place p (n + 1)) = (sender (place_view send)).0 refl in
    let there : IsEvent c (place_view send) =
    event_from_kind c (place_view send) (Send message.0) message.1 in
    (message, there, process_in_range c (place_view send) there)

some_need : (c : Computation) (p n : ℕ) (send : Place) → p < length c → n < event_count c p
    → IsSender c (place p (n + 1)) (Some send) → IsNeed c p n send.process send.number
some_need c p n send within room sender =
    record {
      within = (sent c p n send sender).2;
      met = met;
      sends = λ other message. sym (same_Some (place_view send) other ((sender other).1 message));
      sent = λ some there. (sent c p n send sender).0;
    }
  where
    met : (cut : List ℕ) → IsConsistent c cut → get_or cut p 0 ≡ n
        → (send.number ≤ get_or cut send.process 0) ↔ IsConsistent c (one_more cut p)
    met cut ok at =
        let exact : HasSend c cut (added cut p) ↔ IsConsistent c (one_more cut p) =
        one_more_exactly c cut p ok within (omega arith) in
        let next : place p (n + 1) ≡ added cut p = ap (λ (m : ℕ). place p (m + 1)) (sym at) in (
          λ le. exact.0 (λ other message.
              subst (λ (e : events.Place). e.number ≤ get_or cut e.process 0)
              (same_Some (place_view send) other ((sender other).1
              (subst (λ (e : events.Place). IsMessage c other e) (sym next) message))) le),
          λ more. exact.1 more (place_view send)
              (subst (λ (e : events.Place). IsMessage c (place_view send) e) next (sent c p n send sender).0),
        )

none_need : (c : Computation) (p n : ℕ) → p < length c → n < event_count c p
    → IsSender c (place p (n + 1)) None → IsNeed c p n p 0
none_need c p n within room sender =
    record {
      within = within;
      met = met;
      sends = λ other message. absurd (none-some other ((sender other).1 message));
      sent = λ some there. absurd (omega arith);
    }
  where
    met : (cut : List ℕ) → IsConsistent c cut → get_or cut p 0 ≡ n
        → (0 ≤ get_or cut p 0) ↔ IsConsistent c (one_more cut p)
    met cut ok at =
        let exact : HasSend c cut (added cut p) ↔ IsConsistent c (one_more cut p) =
        one_more_exactly c cut p ok within (omega arith) in
        let next : place p (n + 1) ≡ added cut p = ap (λ (m : ℕ). place p (m + 1)) (sym at) in (
          λ le. exact.0 (λ other message.
              absurd (none-some other ((sender other).1
              (subst (λ (e : events.Place). IsMessage c other e) (sym next) message)))),
          λ more. omega arith,
        )

pub overflow_cast-result-in-Some : goal.overflow_cast-result-in-Some
overflow_cast-result-in-Some c =
    let s = sent c.args.computation.now.events c.args.p c.args.count c.in-Some.send c.in-Some.ensures in
    let lt : c.in-Some.send.process < length c.args.computation.now.events = s.2 in
    omega arith

pub overflow_cast-result-in-Some-2 : goal.overflow_cast-result-in-Some-2
overflow_cast-result-in-Some-2 c =
    let s = sent c.args.computation.now.events c.args.p c.args.count c.in-Some.send c.in-Some.ensures in
    let le : c.in-Some.send.number ≤ event_count c.args.computation.now.events c.in-Some.send.process = s.1.1 in
    let few : event_count c.args.computation.now.events c.in-Some.send.process ≤ event_limit =
    c.requires.short c.in-Some.send.process in
    omega arith

pub returns-in-Some : goal.returns-in-Some
returns-in-Some c =
    some_need c.args.computation.now.events c.args.p c.args.count c.in-Some.send c.requires.within
    (omega (arith, c.events.ensures, c.if-count-events.false)) c.in-Some.ensures

pub returns-in-None : goal.returns-in-None
returns-in-None c =
    none_need c.args.computation.now.events c.args.p c.args.count c.requires.within
    (omega (arith, c.events.ensures, c.if-count-events.false)) c.in-None.ensures
