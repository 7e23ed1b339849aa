-- The state at a cut.
use Rattle.std.proofs.Common.{◌≡◌, ℕ, sym, subst}
use Rattle.def_model.specs.Cuts.{FitsProcesses}
use Rattle.def_model.specs.Predicates.{Recorded, state_at}
use Rattle.read_traces.specs.Views.{computation_view}
use Rattle.pd_clock.specs.StateViews.{state_view}
use Rattle.pd_clock.proofs.Lookups.{is_looked_up, value_is_state}
use Rattle.pd_clock.proofs.computation.Computation.at.Goals as goal

pub new-requires : goal.new-requires
new-requires c =
    let fits : FitsProcesses (computation_view c.self.inside.traces.now) c.args.cut.now =
    subst (λ (r : Recorded). FitsProcesses r.events c.args.cut.now) (sym c.self.view_is) c.requires in
    rw (c.deref.ensures.value, c.counts.ensures)
    (is_looked_up c.self.inside.initial.now c.self.inside.traces.now c.self.inside.histories.items
    c.self.invariant.0 c.args.cut.now fits)

pub returns : goal.returns
returns c =
    let fits : FitsProcesses (computation_view c.self.inside.traces.now) c.args.cut.now =
    subst (λ (r : Recorded). FitsProcesses r.events c.args.cut.now) (sym c.self.view_is) c.requires in
    let each : (p v : ℕ) → state_view c.new.result p v
    ≡ state_at c.args.self.now.initial c.args.self.now.events c.args.cut.now p v = λ p v.
    subst (λ (r : Recorded). state_view c.new.result p v ≡ state_at r.initial r.events c.args.cut.now p v)
    c.self.view_is
    (rw (c.new.ensures.initial, c.new.ensures.histories, c.new.ensures.counts, c.deref.ensures.value, c.counts.ensures)
    (value_is_state c.self.inside.initial.now c.self.inside.traces.now c.self.inside.histories.items c.self.invariant.0
    c.args.cut.now p v (fits.within p))) in
    λ i p v. each p v i
