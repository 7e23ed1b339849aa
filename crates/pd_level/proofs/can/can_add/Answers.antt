-- One more event leaves a cut where the send of its message is counted.
use Rattle.std.proofs.Common.{◌≡◌, ◌+◌, ◌<◌, ◌≤◌, ◌↔◌, ℕ, List, length, get_or, refl, sym, ap, ◌∙◌, subst, arith}
use Rattle.std.specs.Prelude.{Some, None, IsTrue, nat_le}
use Rattle.std.proofs.lemmas.Bool.{leb-true, le-leb}
use Rattle.std.proofs.lemmas.Option.{same_Some, none-some}
use Rattle.def_model.specs.Cuts.{IsConsistent, one_more}
use Rattle.def_model.specs.Events as events
use Rattle.def_model.specs.Events.{Computation, Send, event_count, place}
use Rattle.def_model.specs.Messages.{IsMessage}
use Rattle.def_model.proofs.Chains.{event_from_kind}
use Rattle.def_model.proofs.Consistency.{process_in_range}
use Rattle.pd_match.specs.Views.{place_view}
use Rattle.pd_match.specs.declared.place.Place.{Place}
use Rattle.pd_clock.specs.Senders.{IsSender}
use Rattle.def_model.proofs.AddedEvents.{HasSend, added, one_more_exactly}
use Rattle.walk_keys.specs.Keys.{digits}
use Rattle.pd_level.proofs.can.can_add.Goals as goal

some_decides : (c : Computation) (counts : List ℕ) (p count d : ℕ) (send : Place) → IsConsistent c counts → p < length c
    → count ≡ get_or counts p 0 → count < event_count c p → IsSender c (place p (count + 1)) (Some send)
    → d ≡ get_or counts send.process 0 → IsTrue (nat_le send.number d) ↔ IsConsistent c (one_more counts p)
some_decides c counts p count d send ok within is room sender read =
    (λ passes. exact.0 (has passes), λ more. le-leb send.number d (below (exact.1 more)))
  where
    exact : HasSend c counts (added counts p) ↔ IsConsistent c (one_more counts p)
    exact = one_more_exactly c counts p ok within (omega arith)

    reported : (other : events.Place) → IsMessage c other (added counts p) → place_view send ≡ other
    reported other message =
        same_Some (place_view send) other ((sender other).1
        (subst (λ (n : ℕ). IsMessage c other (place p (n + 1))) (sym is) message))

    has : IsTrue (nat_le send.number d) → HasSend c counts (added counts p)
    has passes other message =
        let le : send.number ≤ d = leb-true send.number d passes in
        subst (λ (x : events.Place). x.number ≤ get_or counts x.process 0) (reported other message) (omega arith)

    below : HasSend c counts (added counts p) → send.number ≤ d
    below sent =
        let le : send.number ≤ get_or counts send.process 0 =
        sent (place_view send) (subst (λ (n : ℕ). IsMessage c (place_view send) (place p (n + 1))) is
        ((sender (place_view send)).0 refl)) in
        omega arith

none_decides : (c : Computation) (counts : List ℕ) (p count : ℕ) → IsConsistent c counts → p < length c
    → count ≡ get_or counts p 0 → count < event_count c p → IsSender c (place p (count + 1)) None
    → IsConsistent c (one_more counts p)
none_decides c counts p count ok within is room sender =
    (one_more_exactly c counts p ok within (omega arith)).0 (λ other message.
    absurd (none-some other ((sender other).1
    (subst (λ (n : ℕ). IsMessage c other (place p (n + 1))) (sym is) message))))

pub digit-requires-clause-within : goal.digit-requires-clause-within
digit-requires-clause-within g c =
    let message : IsMessage c.args.computation.now.events (place_view c.in-Some.send)
    (place c.args.p (c.digit-count.result + 1)) = (c.in-Some.ensures (place_view c.in-Some.send)).0 refl in
    let there : c.in-Some.send.process < length c.args.computation.now.events =
    process_in_range c.args.computation.now.events (place_view c.in-Some.send)
    (event_from_kind c.args.computation.now.events (place_view c.in-Some.send) (Send message.0) message.1) in
    omega (arith, c.processes-processes.ensures)

pub returns-in-Some : goal.returns-in-Some
returns-in-Some g c =
    let count : c.digit-count.result
    ≡ get_or (digits (length c.args.computation.now.events) (g.K.Key.number c.args.key)) c.args.p 0 =
    c.digit-count.ensures
    ∙ ap (λ (n : ℕ). get_or (digits n (g.K.Key.number c.args.key)) c.args.p 0) c.processes-processes.ensures in
    let read : c.digit.result
    ≡ get_or (digits (length c.args.computation.now.events) (g.K.Key.number c.args.key)) c.in-Some.send.process
    0 = c.digit.ensures ∙ ap (λ (n : ℕ). get_or (digits n (g.K.Key.number c.args.key)) c.in-Some.send.process 0)
    c.processes-processes.ensures in
    let room : c.digit-count.result < event_count c.args.computation.now.events c.args.p =
    omega (arith, c.events.ensures, c.if-count-events.false) in
    some_decides c.args.computation.now.events (digits (length c.args.computation.now.events)
    (g.K.Key.number c.args.key)) c.args.p
    c.digit-count.result c.digit.result c.in-Some.send c.requires.cut c.requires.within count room c.in-Some.ensures
    read

pub returns-in-None : goal.returns-in-None
returns-in-None g c =
    let count : c.digit-count.result
    ≡ get_or (digits (length c.args.computation.now.events) (g.K.Key.number c.args.key)) c.args.p 0 =
    c.digit-count.ensures
    ∙ ap (λ (n : ℕ). get_or (digits n (g.K.Key.number c.args.key)) c.args.p 0) c.processes-processes.ensures in
    let room : c.digit-count.result < event_count c.args.computation.now.events c.args.p =
    omega (arith, c.events.ensures, c.if-count-events.false) in
    let more : IsConsistent c.args.computation.now.events
    (one_more (digits (length c.args.computation.now.events) (g.K.Key.number c.args.key)) c.args.p) =
    none_decides c.args.computation.now.events (digits (length c.args.computation.now.events)
    (g.K.Key.number c.args.key)) c.args.p
    c.digit-count.result c.requires.cut c.requires.within count room c.in-None.ensures in
    (λ _. more, λ _. refl)
