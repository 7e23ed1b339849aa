-- A clock is looked up in the row of its process.
use Rattle.std.proofs.Common.{◌≡◌, ◌<◌, ◌+◌, ◌-◌, ◌*◌, length, ap, sym, ◌∙◌, arith}
use Rattle.def_model.specs.Events.{IsEvent}
use Rattle.def_model.specs.Predicates.{Recorded}
use Rattle.read_traces.specs.Views.{computation_view}
use Rattle.pd_match.specs.Views.{place_view}
use Rattle.pd_clock.proofs.PastFacts.{place_in_row, clock_read}
use Rattle.pd_clock.proofs.computation.Computation.clock.Goals as goal

pub index-requires-2 : goal.index-requires-2
index-requires-2 c =
    let same : computation_view c.self.inside.traces.now ≡ c.args.self.now.events =
    ap (λ (r : Recorded). r.events) c.self.view_is in
    let is : IsEvent (computation_view c.self.inside.traces.now) (place_view c.args.place) = rw same c.requires.event in
    let count : c.processes.result ≡ length (computation_view c.self.inside.traces.now) =
    c.processes.ensures ∙ sym (ap length same) in
    let q : c.args.q < length (computation_view c.self.inside.traces.now) = rw same c.requires.within in
    let there : (c.args.place.number - 1) * length (computation_view c.self.inside.traces.now) + c.args.q
    < length c.index.result.now.items =
    place_in_row (computation_view c.self.inside.traces.now) c.self.inside.clocks.items c.self.invariant.2
    c.self.invariant.1 (place_view c.args.place) c.args.q c.index.result.now is q c.index.ensures in
    rw count (omega (arith, c.index.result.now.ok.0))

pub returns : goal.returns
returns c =
    let same : computation_view c.self.inside.traces.now ≡ c.args.self.now.events =
    ap (λ (r : Recorded). r.events) c.self.view_is in
    let is : IsEvent (computation_view c.self.inside.traces.now) (place_view c.args.place) = rw same c.requires.event in
    let count : c.processes.result ≡ length (computation_view c.self.inside.traces.now) =
    c.processes.ensures ∙ sym (ap length same) in
    let q : c.args.q < length (computation_view c.self.inside.traces.now) = rw same c.requires.within in
    rw (← same) (clock_read (computation_view c.self.inside.traces.now) c.self.inside.clocks.items c.self.invariant.2
    c.self.invariant.1 (place_view c.args.place) c.args.q c.index.result.now c.index-2.result.now is q
    c.index.ensures (rw count at c.index-2.ensures))
