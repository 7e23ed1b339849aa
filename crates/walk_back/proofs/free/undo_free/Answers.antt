-- The last event of a process is undone.
use Rattle.std.proofs.Common.{◌≡◌, ◌≢◌, ◌<◌, ◌↔◌, ℕ, List, length, get_or, refl, sym, ap, ◌∙◌, subst, arith}
use Rattle.std.specs.Prelude.{Some, None, IsTrue}
use Rattle.std.proofs.lemmas.Option.{none-some, same_Some}
use Rattle.def_model.specs.Cuts.{IsConsistent, one_less}
use Rattle.def_model.specs.Events as events
use Rattle.def_model.specs.Events.{Computation, Send, place}
use Rattle.def_model.specs.Messages.{IsMessage}
use Rattle.def_model.proofs.Chains.{event_from_kind}
use Rattle.def_model.proofs.Consistency.{process_in_range}
use Rattle.def_model.proofs.Counts.{length_less, less_other}
use Rattle.pd_match.specs.Views.{place_view}
use Rattle.pd_match.specs.declared.place.Place.{Place}
use Rattle.pd_clock.specs.Senders.{IsSender}
use Rattle.walk_keys.specs.Words.{has_bit}
use Rattle.walk_back.specs.Ways.{AreFree, LeavesConsistent}
use Rattle.walk_back.proofs.FreeWords.{free_with_send, free_without_send}
use Rattle.walk_back.proofs.free.undo_free.Goals as goal

module _ (c : Computation) (cut new : List ℕ) (p count free rest : ℕ) (ok : IsConsistent c cut)
    (leaves : LeavesConsistent c cut p) (are : AreFree c cut free) (less : new ≡ one_less cut p)
    (is : count ≡ get_or cut p 0) (bit : IsTrue (has_bit rest p) ↔ LeavesConsistent c new p)
    (others : (i : ℕ) → i ≢ p → has_bit rest i ≡ has_bit free i) where
  bit_without : IsTrue (has_bit rest p) ↔ LeavesConsistent c (one_less cut p) p
  bit_without = subst (λ (x : List ℕ). IsTrue (has_bit rest p) ↔ LeavesConsistent c x p) less bit

  message_here : (send : events.Place) → IsMessage c send (place p (get_or cut p 0)) → IsMessage c send (place p count)
  message_here send message = subst (λ (n : ℕ). IsMessage c send (place p n)) (sym is) message

  -- the undone event is no receipt
  without_send : IsSender c (place p count) None → AreFree c new rest
  without_send sender =
      subst (λ (x : List ℕ). AreFree c x rest) (sym less)
      (free_without_send c cut p free rest ok leaves are bit_without others (λ i apart message.
      absurd (none-some (place i (get_or cut i 0)) ((sender (place i (get_or cut i 0))).1
      (message_here (place i (get_or cut i 0)) message)))))

  module _ (send : Place) (sender : IsSender c (place p count) (Some send)) where
    is_send : (other : events.Place) → IsMessage c other (place p (get_or cut p 0)) → place_view send ≡ other
    is_send other message = same_Some (place_view send) other ((sender other).1 (message_here other message))

    -- it is one, and the bit of the process of its send is right too
    with_send : (now : ℕ) → (IsTrue (has_bit now send.process) ↔ LeavesConsistent c new send.process)
        → ((i : ℕ) → i ≢ send.process → has_bit now i ≡ has_bit rest i) → AreFree c new now
    with_send now there same =
        subst (λ (x : List ℕ). AreFree c x now) (sym less)
        (free_with_send c cut p free rest ok leaves are bit_without others send.process now
        (λ other message. sym (ap (λ (x : events.Place). x.process) (is_send other message)))
        (subst (λ (x : List ℕ). IsTrue (has_bit now send.process) ↔ LeavesConsistent c x send.process) less there)
        same)

    -- its send isn't the last event of its process
    with_early_send : send.number ≢ get_or new send.process 0 → AreFree c new rest
    with_early_send early =
        subst (λ (x : List ℕ). AreFree c x rest) (sym less)
        (free_without_send c cut p free rest ok leaves are bit_without others none)
      where
        none : (i : ℕ) → i ≢ p → ¬ IsMessage c (place i (get_or cut i 0)) (place p (get_or cut p 0))
        none i apart message =
            let is_it : place_view send ≡ place i (get_or cut i 0) = is_send (place i (get_or cut i 0)) message in
            let process : send.process ≡ i = ap (λ (x : events.Place). x.process) is_it in
            let number : send.number ≡ get_or cut i 0 = ap (λ (x : events.Place). x.number) is_it in
            let stays : get_or (one_less cut p) i 0 ≡ get_or cut i 0 = less_other cut p i apart in
            early (number ∙ (sym stays ∙ (ap (λ (x : List ℕ). get_or x i 0) (sym less)
            ∙ ap (λ (q : ℕ). get_or new q 0) (sym process))))

-- a send is one of the computation's events
send_within : (c : Computation) (receipt : events.Place) (send : Place) → IsSender c receipt (Some send)
    → send.process < length c
send_within c receipt send sender =
    let message : IsMessage c (place_view send) receipt = (sender (place_view send)).0 refl in
    process_in_range c (place_view send) (event_from_kind c (place_view send) (Send message.0) message.1)

pub offset_bounds-counts-send : goal.offset_bounds-counts-send
offset_bounds-counts-send c =
    let within : c.in-Some.send.process < length c.args.computation.now.events =
    send_within c.args.computation.now.events (place c.args.p (get_or c.counts.result.now c.args.p 0)) c.in-Some.send
    c.in-Some.ensures in
    omega (arith, c.limits.ensures.few)

pub bounds-counts-send : goal.bounds-counts-send
bounds-counts-send c =
    let within : c.in-Some.send.process < length c.args.computation.now.events =
    send_within c.args.computation.now.events (place c.args.p (get_or c.counts.result.now c.args.p 0)) c.in-Some.send
    c.in-Some.ensures in
    let one_each : length c.args.cut.now ≡ length c.args.computation.now.events =
    c.requires.consistent.fits.one_each in
    let same : length c.counts-in-Some.result.now ≡ length c.args.cut.now =
    ap length c.counts-in-Some.ensures ∙ (ap length c.undo.ensures ∙ length_less c.args.cut.now c.args.p) in
    omega arith

pub look_again-requires-clause-within : goal.look_again-requires-clause-within
look_again-requires-clause-within c =
    send_within c.args.computation.now.events (place c.args.p (get_or c.counts.result.now c.args.p 0)) c.in-Some.send
    c.in-Some.ensures

pub returns-then-send-counts-clause-free : goal.returns-then-send-counts-clause-free
returns-then-send-counts-clause-free c =
    with_send c.args.computation.now.events c.args.cut.now c.undo.new.self c.args.p
    (get_or c.counts.result.now c.args.p 0) c.args.free c.look_again-rest.result c.requires.consistent
    c.requires.leaves c.requires.free c.undo.ensures (ap (λ (xs : List ℕ). get_or xs c.args.p 0) c.counts.ensures)
    c.look_again-rest.ensures.bit c.look_again-rest.ensures.others c.in-Some.send c.in-Some.ensures c.look_again.result
    c.look_again.ensures.bit c.look_again.ensures.others

pub returns-else-send-counts-clause-free : goal.returns-else-send-counts-clause-free
returns-else-send-counts-clause-free c =
    with_early_send c.args.computation.now.events c.args.cut.now c.undo.new.self c.args.p
    (get_or c.counts.result.now c.args.p 0) c.args.free c.look_again-rest.result c.requires.consistent
    c.requires.leaves c.requires.free c.undo.ensures (ap (λ (xs : List ℕ). get_or xs c.args.p 0) c.counts.ensures)
    c.look_again-rest.ensures.bit c.look_again-rest.ensures.others c.in-Some.send c.in-Some.ensures
    (λ last. c.if-send-counts.false
    (last ∙ sym (ap (λ (xs : List ℕ). get_or xs c.in-Some.send.process 0) c.counts-in-Some.ensures)))

pub returns-in-None-clause-free : goal.returns-in-None-clause-free
returns-in-None-clause-free c =
    without_send c.args.computation.now.events c.args.cut.now c.undo.new.self c.args.p
    (get_or c.counts.result.now c.args.p 0) c.args.free c.look_again-rest.result c.requires.consistent
    c.requires.leaves c.requires.free c.undo.ensures (ap (λ (xs : List ℕ). get_or xs c.args.p 0) c.counts.ensures)
    c.look_again-rest.ensures.bit c.look_again-rest.ensures.others c.in-None.ensures
