-- The way begins at the empty cut and ends at the full one, which are consistent.
use Rattle.std.proofs.Common.{◌≡◌, List, ℕ, sym, ◌∙◌, subst}
use Rattle.def_model.specs.Cuts.{IsConsistent, empty_cut, full_cut}
use Rattle.def_model.proofs.Steps.{empty_consistent}
use Rattle.pd_evidence.proofs.LeastWays.{full_consistent}
use Rattle.pd_evidence.proofs.observation.path_through.Goals as goal

pub go_up-requires-clause-begins : goal.go_up-requires-clause-begins
go_up-requires-clause-begins c =
    let is : c.in_ok-here.here ≡ empty_cut c.args.computation.now.events =
    c.in_ok-here.ensures.ok ∙ (c.deref-2.ensures.value ∙ c.in_ok-no_events.ensures) in
    subst (λ (x : List ℕ). IsConsistent c.args.computation.now.events x) (sym is)
    (empty_consistent c.args.computation.now.events)

pub go_up-requires-2-clause-ends : goal.go_up-requires-2-clause-ends
go_up-requires-2-clause-ends c =
    let is : c.in_ok-full.full ≡ full_cut c.args.computation.now.events =
    c.in_ok-full.ensures.ok ∙ (c.deref.ensures.value ∙ c.in_ok-all_events.ensures) in
    subst (λ (x : List ℕ). IsConsistent c.args.computation.now.events x) (sym is)
    (full_consistent c.args.computation.now.events)
