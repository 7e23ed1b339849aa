-- Event after event is put into the order, until every process waits.
use Rattle.std.proofs.Common.{◌≡◌, ℕ, ◌<◌, List, ◌++◌, drop, length, length-append, take, sym, ap, ◌∙◌, subst, arith}
use Rattle.std.proofs.lemmas.List.{length-drop, length-map, length-replicate, length-take}
use Rattle.read_traces.specs.Views.{computation_view}
use Rattle.read_traces.specs.declared.event.Trace.{Trace}
use Rattle.pd_clock.specs.Orders.{CanGo, Waits}
use Rattle.pd_clock.proofs.OrderSteps.{fewer_left, go_within, leaves_stuck, none_ordered, order_more}
use Rattle.judge_orders.specs.Lists.{lists_view}
use Rattle.judge_orders.proofs.RankRows.{ranks_none}
use Rattle.judge_orders.proofs.rank_table.ranks_in_order.Goals as goal

-- a row that was lent and written is as long as it was
written_row : (row new : List ℕ) (len width : ℕ) → len ≡ length row → length row ≡ width → length new ≡ width
    → length (take len (new ++ drop (length new) row)) ≡ width
written_row row new len width is was now =
    omega (
      arith,
      length-take len (new ++ drop (length new) row),
      length-append new (drop (length new) row),
      length-drop (length new) row,
      is,
      was,
      now,
    )

pub loop-p-init : goal.loop-p-init
loop-p-init c =
    let run = computation_view c.args.traces.now in
    let many : length c.args.traces.now ≡ length run =
    sym (length-map c.args.traces.now (λ (process : Trace). process.events)) in
    record {
      last = omega arith;
      room = ap length (c.in_ok-row.ensures.items_if_clones_equal (λ y same. same))
          ∙ length-replicate (length c.args.numbers.now) 0;
      ordered = none_ordered run c.in_ok-table.table.done.items (length c.args.traces.now) many
          c.in_ok-table.ensures.none;
      ranks = ranks_none run (lists_view c.args.numbers.now) (length c.args.traces.now)
          c.in_ok-table.table.done.items c.in_ok-table.table.rows.items many c.in_ok-table.ensures;
    }

pub loop-p-smaller : goal.loop-p-smaller
loop-p-smaller c =
    let goes : CanGo (computation_view c.args.traces.now) c.loop-p.table.done.items c.in-Some.p =
    subst (λ (done : List ℕ). CanGo (computation_view c.args.traces.now) done c.in-Some.p) c.deref.ensures.value
    c.in-Some.ensures.found in
    rw c.in_ok-add.ensures.done (fewer_left (computation_view c.args.traces.now) c.loop-p.table.done.items c.in-Some.p
    c.loop-p.invariant.ordered goes)

pub loop-p-preserved : goal.loop-p-preserved
loop-p-preserved c =
    let run = computation_view c.args.traces.now in
    let done = c.loop-p.table.done.items in
    let goes : CanGo run done c.in-Some.p =
    subst (λ (all : List ℕ). CanGo run all c.in-Some.p) c.deref.ensures.value c.in-Some.ensures.found in
    let within : c.in-Some.p < length run = go_within run done c.in-Some.p goes in
    let many : length run ≡ length c.args.traces.now =
    length-map c.args.traces.now (λ (process : Trace). process.events) in
    record {
      last = omega (arith, within, many);
      room = written_row c.loop-p.row.items c.add.new.row c.loop-p.row.len (length c.args.numbers.now)
          c.loop-p.row.ok.0 c.loop-p.invariant.room c.in_ok-add.ensures.room;
      ordered =
          rw c.in_ok-add.ensures.done (order_more run done c.in-Some.p c.loop-p.invariant.ordered goes);
      ranks = c.in_ok-add.ensures.ranks;
    }

pub returns-clause-stuck : goal.returns-clause-stuck
returns-clause-stuck c =
    let waits : (p : ℕ) → Waits (computation_view c.args.traces.now) c.loop-p.table.done.items p =
    subst (λ (done : List ℕ). (p : ℕ) → Waits (computation_view c.args.traces.now) done p) c.deref.ensures.value
    c.in_default.ensures.none in
    leaves_stuck (computation_view c.args.traces.now) c.loop-p.table.done.items c.loop-p.invariant.ordered waits
