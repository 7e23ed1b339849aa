-- Event after event is put into the order, until every process waits.
use Rattle.std.proofs.Common.{◌≡◌, ℕ, ◌+◌, ◌-◌, ◌<◌, List, get_or, length, set, sum, sym, ap, ◌∙◌, subst, arith}
use Rattle.std.proofs.lemmas.List.{length-map}
use Rattle.def_model.specs.Cuts.{one_more, total}
use Rattle.read_traces.specs.Views.{computation_view}
use Rattle.read_traces.specs.declared.event.Trace.{Trace}
use Rattle.pd_clock.specs.Orders.{CanGo, IsOrdered, Waits}
use Rattle.pd_clock.proofs.OrderSteps.{fewer_left, go_within, leaves_stuck, none_ordered, order_more}
use Rattle.judge_orders.proofs.known_rows.counts_in_order.Goals as goal

-- the number that is written, as it was read
written : (done read : List ℕ) (p number : ℕ) → number ≡ get_or read p 0 + 1 → read ≡ done
    → set done p number ≡ one_more done p
written done read p number is same = ap (set done p) (is ∙ ap (λ (xs : List ℕ). get_or xs p 0 + 1) same)

pub loop-p-init : goal.loop-p-init
loop-p-init c =
    let many : length c.args.traces.now ≡ length (computation_view c.args.traces.now) =
    sym (length-map c.args.traces.now (λ (process : Trace). process.events)) in
    record {
      last = omega arith;
      ordered = none_ordered (computation_view c.args.traces.now) c.in_ok-done.done.items (length c.args.traces.now)
          many (c.in_ok-done.ensures.items_if_clones_equal (λ y same. same));
    }

pub loop-p-smaller : goal.loop-p-smaller
loop-p-smaller c =
    let run = computation_view c.args.traces.now in
    let done = c.loop-p.done.items in
    let goes : CanGo run done c.in-Some.p =
    subst (λ (all : List ℕ). CanGo run all c.in-Some.p) c.deref.ensures.value c.in-Some.ensures.found in
    subst (λ (all : List ℕ). total run - sum all < total run - sum done)
    (sym (written done c.deref-in-Some.result.now c.in-Some.p c.next_number.result c.next_number.ensures
    c.deref-in-Some.ensures.value)) (fewer_left run done c.in-Some.p c.loop-p.invariant.ordered goes)

pub loop-p-preserved : goal.loop-p-preserved
loop-p-preserved c =
    let run = computation_view c.args.traces.now in
    let done = c.loop-p.done.items in
    let goes : CanGo run done c.in-Some.p =
    subst (λ (all : List ℕ). CanGo run all c.in-Some.p) c.deref.ensures.value c.in-Some.ensures.found in
    let within : c.in-Some.p < length run = go_within run done c.in-Some.p goes in
    let many : length run ≡ length c.args.traces.now =
    length-map c.args.traces.now (λ (process : Trace). process.events) in
    record {
      last = omega (arith, within, many);
      ordered = subst (IsOrdered run)
          (sym (written done c.deref-in-Some.result.now c.in-Some.p c.next_number.result c.next_number.ensures
          c.deref-in-Some.ensures.value)) (order_more run done c.in-Some.p c.loop-p.invariant.ordered goes);
    }

pub returns : goal.returns
returns c =
    let run = computation_view c.args.traces.now in
    record {
      stuck = leaves_stuck run c.loop-p.done.items c.loop-p.invariant.ordered
          (subst (λ (all : List ℕ). (p : ℕ) → Waits run all p) c.deref.ensures.value c.in_default.ensures.none);
    }
