-- The row of the next event of a process.
use Rattle.std.proofs.Common.{◌≡◌, ◌≢◌, ◌<◌, ℕ, List, length, get_or, max, sym, ap, ◌∙◌, subst, inl, inr, arith}
use Rattle.std.specs.Prelude.{option_map, Option, Some, None, IfSome}
use Rattle.std.proofs.lemmas.List.{get_or_read, length-map}
use Rattle.def_format.specs.Limits.{process_limit}
use Rattle.def_model.specs.Cuts.{Includes}
use Rattle.pd_clock.specs.Orders.{next_of, count_of}
use Rattle.pd_clock.proofs.OrderSteps.{IsSendOf, next_found, sent_some, go_within}
use Rattle.pd_clock.proofs.ClockRows.{IsBeforeNext, has_rows, next_clock}
use Rattle.read_traces.specs.Views.{computation_view}
use Rattle.read_traces.specs.declared.event.Trace.{Trace}
use Rattle.pd_match.specs.Views.{place_view}
use Rattle.pd_match.specs.declared.place.Place.{Place}
use Rattle.def_model.specs.Events.{place}
use Rattle.pd_clock.proofs.order.next_row.Goals.{then-number-eq0, else-number-eq0}
use Rattle.pd_clock.proofs.order.next_row.Goals as goal

view_some : (done : List ℕ) (o : Option Place) → IfSome (option_map place_view o) (λ e. Includes done e)
    → IfSome o (λ e. Includes done (place_view e))
view_some done None h = tt
view_some done (Some e) h = h

pub count_in-past-requires-clause-rows : goal.count_in-past-requires-clause-rows
count_in-past-requires-clause-rows c =
    has_rows (computation_view c.args.traces.now) c.args.order.now.done.items c.args.order.now.clocks.items
    c.requires.ordered c.requires.clocks

pub count_in-sent-requires-clause-rows : goal.count_in-sent-requires-clause-rows
count_in-sent-requires-clause-rows c =
    has_rows (computation_view c.args.traces.now) c.args.order.now.done.items c.args.order.now.clocks.items
    c.requires.ordered c.requires.clocks

pub count_in-sent-requires-clause-there : goal.count_in-sent-requires-clause-there
count_in-sent-requires-clause-there c =
    let in_list : c.args.p < length c.args.order.now.done.items =
    let w : c.args.p < length (computation_view c.args.traces.now) =
    go_within (computation_view c.args.traces.now) c.args.order.now.done.items c.args.p c.requires.goes in
    omega (arith, c.requires.ordered.one_each) in
    let found : IsSendOf (computation_view c.args.traces.now) (next_of c.args.order.now.done.items c.args.p)
    (option_map place_view c.sender-send.result) =
    next_found (computation_view c.args.traces.now) c.args.matched.now c.args.order.now.done.items c.args.p
    c.index-number.result.now (option_map place_view c.sender-send.result) c.requires.messages
    (get_or_read c.args.order.now.done.items c.args.p c.index-number.result.now in_list c.index-number.ensures 0)
    c.sender-send.ensures in
    view_some c.args.order.now.done.items c.sender-send.result
    (sent_some (computation_view c.args.traces.now) c.args.order.now.done.items c.args.p
    (option_map place_view c.sender-send.result) c.requires.goes found)

pub returns-clause-clock : goal.returns-clause-clock
returns-clause-clock c = λ q lt.
    let many : length (computation_view c.args.traces.now) ≡ length c.args.traces.now =
    length-map c.args.traces.now (λ (process : Trace). process.events) in
    let each : length c.args.order.now.done.items ≡ length (computation_view c.args.traces.now) =
    c.requires.ordered.one_each in
    let there : c.args.p < length (computation_view c.args.traces.now) =
    go_within (computation_view c.args.traces.now) c.args.order.now.done.items c.args.p c.requires.goes in
    let read : c.index-number.result.now ≡ get_or c.args.order.now.done.items c.args.p 0 =
    get_or_read c.args.order.now.done.items c.args.p c.index-number.result.now (omega arith) c.index-number.ensures
    0 in
    let found : IsSendOf (computation_view c.args.traces.now) (next_of c.args.order.now.done.items c.args.p)
    (option_map place_view c.sender-send.result) =
    next_found (computation_view c.args.traces.now) c.args.matched.now c.args.order.now.done.items c.args.p
    c.index-number.result.now (option_map place_view c.sender-send.result) c.requires.messages read
    c.sender-send.ensures in
    let before : IsBeforeNext c.args.order.now.done.items c.args.p (option_map place_view c.if-number-eq0.previous) =
    elim c.if-number-eq0.branch [
      | then-number-eq0 w ↦ inl (
        sym read ∙ w.if-number-eq0.true,
        ap (λ (o : Option Place). option_map place_view o) w.previous-is,
      )
      | else-number-eq0 w ↦ inr (
        let some : c.index-number.result.now ≢ 0 = w.if-number-eq0.false in
            omega arith,
        ap (λ (o : Option Place). option_map place_view o) w.previous-is
            ∙ ap (λ (n : ℕ). Some (place c.args.p n)) read,
      )
    ] in
    let room : length c.loop-q.row ≡ process_limit = c.loop-q.invariant.room in
    let greater : (k : ℕ) → k < length (computation_view c.args.traces.now)
    → get_or c.loop-q.row k 0 ≡ max (count_of (length (computation_view c.args.traces.now))
    c.args.order.now.clocks.items (option_map place_view c.if-number-eq0.previous) k)
    (count_of (length (computation_view c.args.traces.now)) c.args.order.now.clocks.items
    (option_map place_view c.sender-send.result) k) =
    λ k below. subst (λ (n : ℕ). get_or c.loop-q.row k 0
    ≡ max (count_of n c.args.order.now.clocks.items (option_map place_view c.if-number-eq0.previous) k)
    (count_of n c.args.order.now.clocks.items (option_map place_view c.sender-send.result) k)) each
    (c.loop-q.invariant.so_far k (omega (arith, c.loop-q-test.false))) in
    rw read (next_clock (computation_view c.args.traces.now) c.args.order.now.done.items c.args.order.now.clocks.items
    c.args.p (option_map place_view c.if-number-eq0.previous) (option_map place_view c.sender-send.result)
    c.requires.ordered c.requires.clocks c.requires.goes before found c.loop-q.row q (omega arith)
    (omega (arith, c.requires.few)) greater)
