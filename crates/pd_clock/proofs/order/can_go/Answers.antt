-- The next event of a process, and the send that it waits for.
use Rattle.std.proofs.Common.{rules, ◌≡◌, ◌<◌, ◌≤◌, ℕ, List, length, get_or, refl, ap, subst, inr, arith}
use Rattle.std.specs.Prelude.{Some, None}
use Rattle.std.proofs.lemmas.Bool.{leb-true, leb-false}
use Rattle.std.proofs.lemmas.Option.{same_Some, none-some}
use Rattle.pd_clock.specs.Orders.{IsDone, next_of}
use Rattle.read_traces.specs.declared.event.Trace.{Trace}
use Rattle.read_traces.specs.Views.{computation_view}
use Rattle.pd_match.specs.Views.{place_view}
use Rattle.def_model.specs.Events.{Place, event_count}
use Rattle.def_model.specs.Messages.{IsMessage}
use Rattle.def_model.proofs.Consistency.{process_in_range}
use Rattle.pd_clock.proofs.Parts.{events_read}
use Rattle.pd_clock.proofs.OrderSteps.{IsSendOf, send_found, send_event}
use Rattle.pd_clock.proofs.order.can_go.Goals as goal

counted : (traces : List Trace) (p : ℕ) (process : Trace) → p < length traces → process ≡ get_or traces p process
    → event_count (computation_view traces) p ≡ length process.events
counted traces p process within is =
    ap length (events_read traces p process within is)

pub offset_bounds-done-send : goal.offset_bounds-done-send
offset_bounds-done-send c =
    let found : IsSendOf (computation_view c.args.traces.now) (next_of c.args.done.now c.args.p)
    (Some (place_view c.in-Some.send)) =
    send_found (computation_view c.args.traces.now) c.args.matched.now (next_of c.args.done.now c.args.p)
    (Some (place_view c.in-Some.send)) c.requires.messages c.in-Some.ensures in
    let message : IsMessage (computation_view c.args.traces.now) (place_view c.in-Some.send)
    (next_of c.args.done.now c.args.p) = (found (place_view c.in-Some.send)).1 refl in
    let there : c.in-Some.send.process < length (computation_view c.args.traces.now) =
    process_in_range (computation_view c.args.traces.now) (place_view c.in-Some.send)
    (send_event (computation_view c.args.traces.now) (place_view c.in-Some.send) (next_of c.args.done.now c.args.p)
    message) in
    let within : c.in-Some.send.process < length c.args.done.now = omega (arith, c.requires.ordered.one_each) in
    search rules

pub bounds-done-send : goal.bounds-done-send
bounds-done-send c =
    let found : IsSendOf (computation_view c.args.traces.now) (next_of c.args.done.now c.args.p)
    (Some (place_view c.in-Some.send)) =
    send_found (computation_view c.args.traces.now) c.args.matched.now (next_of c.args.done.now c.args.p)
    (Some (place_view c.in-Some.send)) c.requires.messages c.in-Some.ensures in
    let message : IsMessage (computation_view c.args.traces.now) (place_view c.in-Some.send)
    (next_of c.args.done.now c.args.p) = (found (place_view c.in-Some.send)).1 refl in
    let there : c.in-Some.send.process < length (computation_view c.args.traces.now) =
    process_in_range (computation_view c.args.traces.now) (place_view c.in-Some.send)
    (send_event (computation_view c.args.traces.now) (place_view c.in-Some.send) (next_of c.args.done.now c.args.p)
    message) in
    omega (arith, c.requires.ordered.one_each)

pub returns-in-Some-clause-goes : goal.returns-in-Some-clause-goes
returns-in-Some-clause-goes c = λ yes.
    let found : IsSendOf (computation_view c.args.traces.now) (next_of c.args.done.now c.args.p)
    (Some (place_view c.in-Some.send)) =
    send_found (computation_view c.args.traces.now) c.args.matched.now (next_of c.args.done.now c.args.p)
    (Some (place_view c.in-Some.send)) c.requires.messages c.in-Some.ensures in
    let le : c.in-Some.send.number ≤ get_or c.args.done.now c.in-Some.send.process 0 =
    leb-true c.in-Some.send.number (get_or c.args.done.now c.in-Some.send.process 0) yes in
    let there : get_or c.args.done.now c.args.p 0 < event_count (computation_view c.args.traces.now) c.args.p =
    omega (
      arith,
      counted c.args.traces.now c.args.p c.index-traces-p.result c.requires.within c.index-traces-p.is,
      c.len.ensures,
      ap (λ (t : Trace). length t.events) c.index-traces-p.is,
    ) in
    record {
      there = there;
      sent = λ send message.
          let same : place_view c.in-Some.send ≡ send =
          same_Some (place_view c.in-Some.send) send ((found send).0 message) in
          subst (λ (x : Place). IsDone c.args.done.now x) same le;
    }

pub returns-in-Some-clause-waits : goal.returns-in-Some-clause-waits
returns-in-Some-clause-waits c = λ no.
    let found : IsSendOf (computation_view c.args.traces.now) (next_of c.args.done.now c.args.p)
    (Some (place_view c.in-Some.send)) =
    send_found (computation_view c.args.traces.now) c.args.matched.now (next_of c.args.done.now c.args.p)
    (Some (place_view c.in-Some.send)) c.requires.messages c.in-Some.ensures in
    inr (
      place_view c.in-Some.send,
      (found (place_view c.in-Some.send)).1 refl,
      leb-false c.in-Some.send.number (get_or c.args.done.now c.in-Some.send.process 0) no,
    )

pub returns-in-None-clause-goes : goal.returns-in-None-clause-goes
returns-in-None-clause-goes c = λ yes.
    let found : IsSendOf (computation_view c.args.traces.now) (next_of c.args.done.now c.args.p) None =
    send_found (computation_view c.args.traces.now) c.args.matched.now (next_of c.args.done.now c.args.p) None
    c.requires.messages c.in-None.ensures in
    let there : get_or c.args.done.now c.args.p 0 < event_count (computation_view c.args.traces.now) c.args.p =
    omega (
      arith,
      counted c.args.traces.now c.args.p c.index-traces-p.result c.requires.within c.index-traces-p.is,
      c.len.ensures,
      ap (λ (t : Trace). length t.events) c.index-traces-p.is,
    ) in
    record { there = there; sent = λ send message. absurd (none-some send ((found send).0 message)) }
