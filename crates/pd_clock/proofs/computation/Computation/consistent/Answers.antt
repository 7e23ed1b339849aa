-- Counts that fit are consistent if they have what is in the clocks of their last events.
use Rattle.std.proofs.Common.{◌≡◌, ◌↔◌, ap}
use Rattle.def_model.specs.Cuts.{FitsProcesses, IsConsistent}
use Rattle.def_model.specs.Predicates.{Recorded}
use Rattle.read_traces.specs.Views.{computation_view}
use Rattle.pd_clock.specs.Pasts.{HasPasts}
use Rattle.pd_clock.proofs.PastFacts.{consistent_exactly}
use Rattle.pd_clock.proofs.computation.Computation.consistent.Goals as goal

pub returns-then-fits : goal.returns-then-fits
returns-then-fits c =
    let same : computation_view c.self.inside.traces.now ≡ c.args.self.now.events =
    ap (λ (r : Recorded). r.events) c.self.view_is in
    let fits : FitsProcesses (computation_view c.self.inside.traces.now) c.args.cut.now =
    rw same (c.fits.ensures.0 c.if-fits.true) in
    let exact : HasPasts c.self.inside.clocks.items c.args.cut.now
    ↔ IsConsistent (computation_view c.self.inside.traces.now) c.args.cut.now =
    consistent_exactly (computation_view c.self.inside.traces.now) c.self.inside.clocks.items c.self.invariant.2
    c.self.invariant.1 c.args.cut.now fits in
    rw (← same) (
      λ passes. exact.0 (rw (c.deref.ensures.value, c.counts.ensures) at (c.has_pasts.ensures.0 passes)),
      λ ok. c.has_pasts.ensures.1 (rw (c.deref.ensures.value, c.counts.ensures) (exact.1 ok)),
    )
