-- The first cut is the full one, each next one is one step back, and at the last one all have been looked at.
use Rattle.std.proofs.Common.{◌≡◌, ℕ, ◌+◌, List, sum, ap, ◌∙◌, subst}
use Rattle.def_model.proofs.Counts.{sum_less}
use Rattle.def_wide.specs.Tried.{IsOnWayBack, LeavesConsistent, full, undone}
use Rattle.pd_pred.specs.Views.{predicate_view}
use Rattle.wide_gates.specs.Seen.{AfterBest, IsFirstSeen}
use Rattle.wide_gates.proofs.WaysBack.{ends_back, goes_back, none_leaves_empty, on_way_consistent, starts_back}
use Rattle.wide_gates.proofs.way.look_back.Goals as goal
use Rattle.wide_gates.proofs.way.look_back.Goals.{After-better-found}

pub loop-cut-init : goal.loop-cut-init
loop-cut-init c =
    let events = c.args.computation.now.events in
    let way : IsOnWayBack events c.in_ok-cut.cut = full c.in_ok-cut.cut c.in_ok-cut.ensures in
    record {
      consistent = on_way_consistent events c.in_ok-cut.cut way;
      on_way = way;
      first = starts_back c.args.computation.now (predicate_view c.args.pred.now) c.args.best c.in_ok-cut.cut
          c.in_ok-cut.ensures c.requires;
    }

-- what was looked at is the cut itself
looked : (c : After-better-found) → IsFirstSeen c.args.computation.now (predicate_view c.args.pred.now)
    (AfterBest c.loop-cut.found (λ other. other ≡ c.loop-cut.cut)) c.better-found.result
looked c =
    subst (λ (cut : List ℕ). IsFirstSeen c.args.computation.now (predicate_view c.args.pred.now)
    (AfterBest c.loop-cut.found (λ other. other ≡ cut)) c.better-found.result)
    (c.in_ok-copy.ensures.ok ∙ c.counts.ensures) c.better-found.ensures

pub loop-cut-preserved : goal.loop-cut-preserved
loop-cut-preserved c =
    let at = (goal.at.loop-cut-preserved c).After-better-found in
    let events = c.args.computation.now.events in
    let cut = c.loop-cut.cut in
    let p : ℕ = c.in-Some.p in
    let leaves : LeavesConsistent events cut p = c.in-Some.ensures.leaves in
    let way : IsOnWayBack events c.undo.new.self =
    undone c.undo.new.self cut p c.undo.ensures leaves c.in-Some.ensures.least c.loop-cut.invariant.on_way in
    record {
      consistent = on_way_consistent events c.undo.new.self way;
      on_way = way;
      first = goes_back c.args.computation.now (predicate_view c.args.pred.now) c.args.best c.loop-cut.found
          c.better-found.result cut c.loop-cut.invariant.on_way c.loop-cut.invariant.first (looked at)
          (sum c.undo.new.self)
          (ap (λ (xs : List ℕ). sum xs + 1) c.undo.ensures ∙ sum_less cut p leaves.0);
    }

pub returns-in-None : goal.returns-in-None
returns-in-None c =
    let at = (goal.at.returns-in-None c).After-better-found in
    let events = c.args.computation.now.events in
    ends_back c.args.computation.now (predicate_view c.args.pred.now) c.args.best c.loop-cut.found
    c.better-found.result c.loop-cut.cut c.loop-cut.invariant.on_way c.loop-cut.invariant.first (looked at)
    (none_leaves_empty events c.limits.ensures.acyclic c.loop-cut.cut c.loop-cut.invariant.consistent c.in-None.ensures)
