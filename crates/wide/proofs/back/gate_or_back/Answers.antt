-- A gate tells a level, and without one the search back is asked.
use Rattle.std.proofs.Common.{ℕ, subst, MatchOption}
use Rattle.std.specs.Prelude.{Option, Some, None}
use Rattle.def_model.specs.Predicates.{Predicate, Recorded}
use Rattle.def_wide.specs.Gates.{IsLeastGate}
use Rattle.pd_pred.specs.Views.{predicate_view}
use Rattle.wide.proofs.SearchedBack.{gate_is_late}
use Rattle.wide.proofs.back.gate_or_back.Goals as goal

-- the least gate, if there is one
FindsGate : Recorded → Predicate → Option ℕ → Type 0
FindsGate r predicate gate =
    MatchOption gate ((level : ℕ) → ¬ IsLeastGate r predicate level) (IsLeastGate r predicate)

pub returns-in-Some : goal.returns-in-Some
unfolding FindsGate
returns-in-Some c =
    let r = c.args.computation.now in
    let predicate = predicate_view c.args.pred.now in
    let some : FindsGate r predicate (Some c.in-Some.level) =
    subst (FindsGate r predicate) c.in-Some.is
    (subst (λ (p : Predicate). FindsGate r p c.in_ok-gate.gate) c.tree.ensures c.in_ok-gate.ensures) in
    gate_is_late r predicate c.args.width c.in-Some.level c.limits.ensures.acyclic c.requires some

pub search_back-requires-clause-no_gate : goal.search_back-requires-clause-no_gate
unfolding FindsGate
search_back-requires-clause-no_gate c =
    let r = c.args.computation.now in
    let predicate = predicate_view c.args.pred.now in
    let none : FindsGate r predicate None =
    subst (FindsGate r predicate) c.in-None.is
    (subst (λ (p : Predicate). FindsGate r p c.in_ok-gate.gate) c.tree.ensures c.in_ok-gate.ensures) in
    none
