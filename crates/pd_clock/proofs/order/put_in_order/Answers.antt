-- Event after event is put into the order, until every process waits.
use Rattle.std.proofs.Common.{◌≡◌, ℕ, ◌<◌, List, length, sym, subst, arith}
use Rattle.std.proofs.lemmas.List.{length-map}
use Rattle.read_traces.specs.Views.{computation_view}
use Rattle.read_traces.specs.declared.event.Trace.{Trace}
use Rattle.pd_clock.specs.Orders.{CanGo, Waits}
use Rattle.pd_clock.proofs.OrderSteps.{none_ordered, order_more, fewer_left, go_within, leaves_stuck}
use Rattle.pd_clock.proofs.ClockRows.{clocks_none}
use Rattle.pd_clock.proofs.order.put_in_order.Goals as goal

pub loop-p-init : goal.loop-p-init
loop-p-init c =
    let many : length c.args.traces.now ≡ length (computation_view c.args.traces.now) =
    sym (length-map c.args.traces.now (λ (process : Trace). process.events)) in
    record {
      last = omega arith;
      ordered =
          none_ordered (computation_view c.args.traces.now) c.in_ok-order.order.done.items (length c.args.traces.now)
          many c.in_ok-order.ensures.none;
      clocks = clocks_none (computation_view c.args.traces.now) (length c.args.traces.now)
          c.in_ok-order.order.done.items c.in_ok-order.order.clocks.items many c.in_ok-order.ensures;
    }

pub loop-p-smaller : goal.loop-p-smaller
loop-p-smaller c =
    let goes : CanGo (computation_view c.args.traces.now) c.loop-p.order.done.items c.in-Some.p =
    subst (λ (done : List ℕ). CanGo (computation_view c.args.traces.now) done c.in-Some.p) c.deref.ensures.value
    c.in-Some.ensures.found in
    rw c.in_ok-add.ensures.done (fewer_left (computation_view c.args.traces.now) c.loop-p.order.done.items c.in-Some.p
    c.loop-p.invariant.ordered goes)

pub loop-p-preserved : goal.loop-p-preserved
loop-p-preserved c =
    let goes : CanGo (computation_view c.args.traces.now) c.loop-p.order.done.items c.in-Some.p =
    subst (λ (done : List ℕ). CanGo (computation_view c.args.traces.now) done c.in-Some.p) c.deref.ensures.value
    c.in-Some.ensures.found in
    let within : c.in-Some.p < length (computation_view c.args.traces.now) =
    go_within (computation_view c.args.traces.now) c.loop-p.order.done.items c.in-Some.p goes in
    let many : length (computation_view c.args.traces.now) ≡ length c.args.traces.now =
    length-map c.args.traces.now (λ (process : Trace). process.events) in
    record {
      last = omega arith;
      ordered =
          rw c.in_ok-add.ensures.done (order_more (computation_view c.args.traces.now) c.loop-p.order.done.items
          c.in-Some.p c.loop-p.invariant.ordered goes);
      clocks = c.in_ok-add.ensures.clocks;
    }

pub returns-clause-stuck : goal.returns-clause-stuck
returns-clause-stuck c =
    let waits : (p : ℕ) → Waits (computation_view c.args.traces.now) c.loop-p.order.done.items p =
    subst (λ (done : List ℕ). (p : ℕ) → Waits (computation_view c.args.traces.now) done p) c.deref.ensures.value
    c.in_default.ensures.none in
    leaves_stuck (computation_view c.args.traces.now) c.loop-p.order.done.items c.loop-p.invariant.ordered waits
