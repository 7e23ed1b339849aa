-- The way goes back until its process comes again.
use Rattle.std.proofs.Common.{◌≡◌, ◌+◌, ◌<◌, List, [], ◌∷◌, length, drop, sym, ap, ◌∙◌, subst, arith}
use Rattle.std.specs.Prelude.{Some, None, position}
use Rattle.std.proofs.lemmas.List.{length-map, map-append, length_push, drop-map}
use Rattle.std.proofs.lemmas.Result.{IfOk-weaker}
use Rattle.def_model.specs.Events as events
use Rattle.def_model.specs.Order.{IsReportedCycle}
use Rattle.read_traces.specs.declared.event.Trace.{Trace}
use Rattle.read_traces.specs.Views.{computation_view}
use Rattle.pd_match.specs.Views.{place_view}
use Rattle.pd_clock.specs.Orders.{places_view}
use Rattle.def_model.proofs.StuckWay.{IsWay, way_start, way_more, way_short, way_back}
use Rattle.pd_clock.proofs.Cycles.{is_of, new_from_none, taken_from_some}
use Rattle.pd_clock.proofs.cycle.cycle_from.Goals as goal

pub loop-start-init : goal.loop-start-init
loop-start-init c =
    subst (λ (xs : List events.Place). IsWay (computation_view c.args.traces.now) (place_view c.args.first) xs
    (place_view c.args.first))
    (sym (ap places_view c.in_ok-taken.ensures.items))
    (way_start (computation_view c.args.traces.now) (place_view c.args.first) c.requires.least.0)

pub returns-in-Some : goal.returns-in-Some
returns-in-Some c =
    let found : position (is_of c.loop-start.here.process) c.loop-start.taken.items ≡ Some c.in-Some.start =
    ap (position (is_of c.loop-start.here.process)) (sym c.deref.ensures.value)
    ∙ (sym c.place_of.ensures ∙ c.in-Some.is) in
    let at = taken_from_some c.loop-start.taken.items c.loop-start.here c.in-Some.start found in
    let cycle : IsReportedCycle (computation_view c.args.traces.now)
    (drop c.in-Some.start (places_view c.loop-start.taken.items)) =
    way_back (computation_view c.args.traces.now) (place_view c.args.first) (places_view c.loop-start.taken.items)
    (place_view c.loop-start.here) c.in-Some.start c.requires.least c.loop-start.invariant at.0 at.1 in
    IfOk-weaker c.from_place.result _ _ (λ v rest.
    subst (IsReportedCycle (computation_view c.args.traces.now))
    (drop-map place_view c.in-Some.start c.loop-start.taken.items
    ∙ ap places_view (ap (drop c.in-Some.start) (sym c.deref-in-Some.ensures.value) ∙ sym rest))
    cycle) c.from_place.ensures

pub loop-start-smaller : goal.loop-start-smaller
loop-start-smaller c =
    let found : position (is_of c.loop-start.here.process) c.loop-start.taken.items ≡ None =
    ap (position (is_of c.loop-start.here.process)) (sym c.deref.ensures.value)
    ∙ (sym c.place_of.ensures ∙ c.in_default.is) in
    let short : length (places_view c.loop-start.taken.items) < length (computation_view c.args.traces.now) =
    way_short (computation_view c.args.traces.now) (place_view c.args.first) (places_view c.loop-start.taken.items)
    (place_view c.loop-start.here) c.loop-start.invariant
    (new_from_none c.loop-start.taken.items c.loop-start.here found) in
    let taken : length (places_view c.loop-start.taken.items) ≡ length c.loop-start.taken.items =
    length-map c.loop-start.taken.items place_view in
    let processes : length (computation_view c.args.traces.now) ≡ length c.args.traces.now =
    length-map c.args.traces.now (λ (process : Trace). process.events) in
    let more : length c.push.new.self.items ≡ length c.loop-start.taken.items + 1 = ap length c.in_ok-push.ensures.items
    ∙ length_push c.loop-start.taken.items c.loop-start.here in
    omega arith

pub loop-start-preserved : goal.loop-start-preserved
loop-start-preserved c =
    let found : position (is_of c.loop-start.here.process) c.loop-start.taken.items ≡ None =
    ap (position (is_of c.loop-start.here.process)) (sym c.deref.ensures.value)
    ∙ (sym c.place_of.ensures ∙ c.in_default.is) in
    subst (λ (xs : List events.Place). IsWay (computation_view c.args.traces.now) (place_view c.args.first) xs
    (place_view c.first_stuck_of_sender-here.result))
    (sym (map-append place_view c.loop-start.taken.items (c.loop-start.here ∷ []))
    ∙ ap places_view (sym c.in_ok-push.ensures.items))
    (way_more (computation_view c.args.traces.now) (place_view c.args.first) (places_view c.loop-start.taken.items)
    (place_view c.loop-start.here) (place_view c.first_stuck_of_sender-here.result) c.loop-start.invariant
    (new_from_none c.loop-start.taken.items c.loop-start.here found) c.first_stuck_of_sender-here.ensures)
