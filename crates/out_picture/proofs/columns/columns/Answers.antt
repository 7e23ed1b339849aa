-- Event after event gets its column, until every process waits.
use Rattle.std.proofs.Common.{ℕ, ◌<◌, List, length, subst, arith}
use Rattle.pd_clock.specs.Orders.{CanGo, Waits}
use Rattle.pd_clock.proofs.OrderSteps.{none_ordered, order_more, fewer_left, go_within, leaves_stuck}
use Rattle.out_picture.proofs.TableSteps.{columns_none, columns_are, table_is}
use Rattle.out_picture.proofs.columns.columns.Goals as goal

pub loop-p-init : goal.loop-p-init
loop-p-init c = record {
  last = omega arith;
  ordered =
      none_ordered c.args.computation.now.events c.in_ok-table.table.done.items c.processes.result c.processes.ensures
      c.in_ok-table.ensures.none;
  columns = columns_none c.args.computation.now.events c.processes.result c.in_ok-table.table.done.items
      c.in_ok-table.table.rows.items c.processes.ensures c.in_ok-table.ensures.none
      c.in_ok-table.ensures.one_each c.in_ok-table.ensures.zeros;
}

pub loop-p-smaller : goal.loop-p-smaller
loop-p-smaller c =
    let goes : CanGo c.args.computation.now.events c.loop-p.table.done.items c.in-Some.p =
    subst (λ (done : List ℕ). CanGo c.args.computation.now.events done c.in-Some.p) c.deref.ensures.value
    c.in-Some.ensures.found in
    rw c.in_ok-add.ensures.done (fewer_left c.args.computation.now.events c.loop-p.table.done.items c.in-Some.p
    c.loop-p.invariant.ordered goes)

pub loop-p-preserved : goal.loop-p-preserved
loop-p-preserved c =
    let goes : CanGo c.args.computation.now.events c.loop-p.table.done.items c.in-Some.p =
    subst (λ (done : List ℕ). CanGo c.args.computation.now.events done c.in-Some.p) c.deref.ensures.value
    c.in-Some.ensures.found in
    let within : c.in-Some.p < length c.args.computation.now.events =
    go_within c.args.computation.now.events c.loop-p.table.done.items c.in-Some.p goes in
    record {
      last = omega arith;
      ordered =
          rw c.in_ok-add.ensures.done (order_more c.args.computation.now.events c.loop-p.table.done.items
          c.in-Some.p c.loop-p.invariant.ordered goes);
      columns = c.in_ok-add.ensures.columns;
    }

pub returns-clause-longest : goal.returns-clause-longest
returns-clause-longest c =
    let waits : (p : ℕ) → Waits c.args.computation.now.events c.loop-p.table.done.items p =
    subst (λ (done : List ℕ). (p : ℕ) → Waits c.args.computation.now.events done p) c.deref.ensures.value
    c.in_default.ensures.none in
    columns_are c.args.computation.now.events c.loop-p.table.done.items c.loop-p.table.rows.items
    c.limits.ensures.acyclic
    (leaves_stuck c.args.computation.now.events c.loop-p.table.done.items c.loop-p.invariant.ordered waits)
    c.loop-p.invariant.columns

pub returns-clause-table : goal.returns-clause-table
returns-clause-table c =
    let waits : (p : ℕ) → Waits c.args.computation.now.events c.loop-p.table.done.items p =
    subst (λ (done : List ℕ). (p : ℕ) → Waits c.args.computation.now.events done p) c.deref.ensures.value
    c.in_default.ensures.none in
    table_is c.args.computation.now.events c.loop-p.table.done.items c.loop-p.table.rows.items
    c.limits.ensures.acyclic
    (leaves_stuck c.args.computation.now.events c.loop-p.table.done.items c.loop-p.invariant.ordered waits)
    c.loop-p.invariant.columns
