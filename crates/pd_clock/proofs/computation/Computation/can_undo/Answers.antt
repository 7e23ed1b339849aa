-- An event can be undone if it is in the clock of no other process's last event.
use Rattle.std.proofs.Common.{◌≡◌, ℕ, ◌<◌, ◌↔◌, List, get_or, ap, arith}
use Rattle.def_model.specs.Cuts.{IsConsistent, one_less}
use Rattle.def_model.specs.Predicates.{Recorded}
use Rattle.read_traces.specs.Views.{computation_view}
use Rattle.pd_clock.specs.Pasts.{IsInNoPast}
use Rattle.pd_clock.proofs.UndoFacts.{undone_exactly}
use Rattle.pd_clock.proofs.computation.Computation.can_undo.Goals as goal

pub returns-then-counts-p-gt0 : goal.returns-then-counts-p-gt0
returns-then-counts-p-gt0 c =
    let same : computation_view c.self.inside.traces.now ≡ c.args.self.now.events =
    ap (λ (r : Recorded). r.events) c.self.view_is in
    let ok : IsConsistent (computation_view c.self.inside.traces.now) c.args.cut.now = rw same c.requires.consistent in
    let count : get_or c.counts-counts.result.now c.args.p 0 ≡ get_or c.args.cut.now c.args.p 0 =
    ap (λ (counts : List ℕ). get_or counts c.args.p 0) c.counts-counts.ensures in
    let some : 0 < get_or c.args.cut.now c.args.p 0 = omega (arith, c.if-counts-p-gt0.true, count) in
    let exact : IsInNoPast c.self.inside.clocks.items c.args.cut.now c.args.p
    ↔ IsConsistent (computation_view c.self.inside.traces.now) (one_less c.args.cut.now c.args.p) =
    undone_exactly (computation_view c.self.inside.traces.now) c.self.inside.clocks.items c.self.invariant.2
    c.self.invariant.1 c.args.cut.now c.args.p ok some in
    rw (← same) (
      λ passes. (
        some,
        exact.0 (rw (c.deref.ensures.value, c.counts-counts.ensures) at (c.is_in_no_past.ensures.0 passes)),
      ),
      λ left. c.is_in_no_past.ensures.1 (rw (c.deref.ensures.value, c.counts-counts.ensures) (exact.1 left.1)),
    )
