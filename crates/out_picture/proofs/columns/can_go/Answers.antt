-- The next event of a process, and the send that it waits for.
use Rattle.std.proofs.Common.{rules, ◌≡◌, ◌<◌, ◌≤◌, length, get_or, refl, subst, inr, arith}
use Rattle.std.proofs.lemmas.Bool.{leb-true, leb-false}
use Rattle.std.proofs.lemmas.Option.{same_Some, none-some}
use Rattle.pd_clock.specs.Orders.{IsDone, next_of}
use Rattle.pd_match.specs.Views.{place_view}
use Rattle.def_model.specs.Events.{Place}
use Rattle.def_model.specs.Messages.{IsMessage}
use Rattle.def_model.proofs.Consistency.{process_in_range}
use Rattle.pd_clock.proofs.OrderSteps.{send_event}
use Rattle.out_picture.proofs.columns.can_go.Goals as goal

pub bounds-done-send : goal.bounds-done-send
bounds-done-send c =
    let message : IsMessage c.args.computation.now.events (place_view c.in-Some.send)
    (next_of c.args.done.now c.args.p) = (c.in-Some.ensures (place_view c.in-Some.send)).0 refl in
    let there : c.in-Some.send.process < length c.args.computation.now.events =
    process_in_range c.args.computation.now.events (place_view c.in-Some.send)
    (send_event c.args.computation.now.events (place_view c.in-Some.send) (next_of c.args.done.now c.args.p)
    message) in
    omega (arith, c.requires.ordered.one_each)

pub offset_bounds-done-send : goal.offset_bounds-done-send
offset_bounds-done-send c =
    let message : IsMessage c.args.computation.now.events (place_view c.in-Some.send)
    (next_of c.args.done.now c.args.p) = (c.in-Some.ensures (place_view c.in-Some.send)).0 refl in
    let there : c.in-Some.send.process < length c.args.computation.now.events =
    process_in_range c.args.computation.now.events (place_view c.in-Some.send)
    (send_event c.args.computation.now.events (place_view c.in-Some.send) (next_of c.args.done.now c.args.p)
    message) in
    let within : c.in-Some.send.process < length c.args.done.now = omega (arith, c.requires.ordered.one_each) in
    search rules

pub returns-in-Some-clause-goes : goal.returns-in-Some-clause-goes
returns-in-Some-clause-goes c = λ yes.
    let le : c.in-Some.send.number ≤ get_or c.args.done.now c.in-Some.send.process 0 =
    leb-true c.in-Some.send.number (get_or c.args.done.now c.in-Some.send.process 0) yes in
    record {
      there = omega (arith, c.events.ensures, c.if-done-p.false);
      sent = λ send message.
          let same : place_view c.in-Some.send ≡ send =
          same_Some (place_view c.in-Some.send) send ((c.in-Some.ensures send).1 message) in
          subst (λ (x : Place). IsDone c.args.done.now x) same le;
    }

pub returns-in-Some-clause-waits : goal.returns-in-Some-clause-waits
returns-in-Some-clause-waits c = λ no.
    inr (
      place_view c.in-Some.send,
      (c.in-Some.ensures (place_view c.in-Some.send)).0 refl,
      leb-false c.in-Some.send.number (get_or c.args.done.now c.in-Some.send.process 0) no,
    )

pub returns-in-None-clause-goes : goal.returns-in-None-clause-goes
returns-in-None-clause-goes c = λ yes.
    record {
      there = omega (arith, c.events.ensures, c.if-done-p.false);
      sent = λ send message. absurd (none-some send ((c.in-None.ensures send).1 message));
    }
