-- The row of the next event stands after the others of its process.
use Rattle.std.proofs.Common.{◌≡◌, ◌<◌, ℕ, List, length, get_or, set, take, ◌+◌, ◌++◌, sym, ap, ◌∙◌, subst, arith}
use Rattle.std.proofs.lemmas.List.{get_or_read, length-map, length-set, length-take, get_or-take}
use Rattle.def_format.specs.Limits.{process_limit}
use Rattle.def_model.specs.Cuts.{one_more}
use Rattle.def_model.specs.Order.{IsClock}
use Rattle.pd_clock.specs.Orders.{HasClocks, clocks_of, next_of}
use Rattle.pd_clock.proofs.OrderSteps.{go_within}
use Rattle.pd_clock.proofs.ClockRows.{clocks_more, rows_written, rows_kept, rows_read}
use Rattle.read_traces.specs.Views.{computation_view}
use Rattle.read_traces.specs.declared.event.Trace.{Trace}
use Rattle.pd_clock.proofs.order.add.Goals as goal

pub returns-clause-clocks : goal.returns-clause-clocks
returns-clause-clocks c =
    let many : length (computation_view c.args.traces.now) ≡ length c.args.traces.now =
    length-map c.args.traces.now (λ (process : Trace). process.events) in
    let there : c.args.p < length (computation_view c.args.traces.now) =
    go_within (computation_view c.args.traces.now) c.args.order.now.done.items c.args.p c.requires.goes in
    let read : c.index_mut-2.result.now ≡ get_or c.args.order.now.done.items c.args.p 0 =
    get_or_read c.args.order.now.done.items c.args.p c.index_mut-2.result.now
    (omega (arith, c.requires.ordered.one_each)) c.index_mut-2.ensures.value 0 in
    let more : set c.args.order.now.done.items c.args.p (c.index_mut-2.result.now + 1)
    ≡ one_more c.args.order.now.done.items c.args.p =
    ap (λ (n : ℕ). set c.args.order.now.done.items c.args.p (n + 1)) read in
    let within : c.args.p < length c.args.order.now.clocks.items = omega (arith, c.requires.clocks.one_each) in
    let was : clocks_of c.args.order.now.clocks.items c.args.p ≡ c.index_mut.result.now.items =
    rows_read c.args.order.now.clocks.items c.args.p c.index_mut.result.now within c.index_mut.ensures.value in
    let row : List ℕ = take (length c.args.traces.now) c.next_row.new.row in
    let wide : length row ≡ length (computation_view c.args.traces.now) =
    let room : length c.next_row.new.row ≡ process_limit =
    c.next_row.ensures.room in omega (
      arith,
      length-take (length c.args.traces.now) c.next_row.new.row,
      c.requires.few,
    ) in
    let clock : (q : ℕ) → q < length (computation_view c.args.traces.now)
    → IsClock (computation_view c.args.traces.now) (next_of c.args.order.now.done.items c.args.p) q
    (get_or row q 0) = λ q lt. let below : q < length c.args.traces.now =
    omega arith in rw (get_or-take (length c.args.traces.now) c.next_row.new.row q 0 below)
    (c.next_row.ensures.clock q below) in
    let here : clocks_of (set c.args.order.now.clocks.items c.args.p c.extend_from_slice.new.self) c.args.p
    ≡ clocks_of c.args.order.now.clocks.items c.args.p ++ row =
    rows_written c.args.order.now.clocks.items c.args.p c.extend_from_slice.new.self within
    ∙ (c.in_ok-extend_from_slice.ensures.items ∙ ap (λ (rows : List ℕ). rows ++ row) (sym was)) in
    subst (λ (done : List ℕ). HasClocks (computation_view c.args.traces.now) done
    (set c.args.order.now.clocks.items c.args.p c.extend_from_slice.new.self)) (sym more)
    (clocks_more (computation_view c.args.traces.now) c.args.order.now.done.items c.args.order.now.clocks.items
    (set c.args.order.now.clocks.items c.args.p c.extend_from_slice.new.self) c.args.p row c.requires.ordered
    c.requires.goes c.requires.clocks wide clock
    (length-set c.args.order.now.clocks.items c.args.p c.extend_from_slice.new.self) here
    (rows_kept c.args.order.now.clocks.items c.args.p c.extend_from_slice.new.self))
