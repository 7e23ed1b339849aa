-- A step to the level below.
use Rattle.std.proofs.Common.{◌≡◌, ℕ, List, ◌++◌, [], ◌∷◌, length, sym, subst, arith}
use Rattle.def_model.specs.Predicates.{test_of}
use Rattle.pd_pred.specs.Views.{predicate_view}
use Rattle.walk_back.specs.Ways.{IsReached}
use Rattle.walk_back.proofs.Reaching.{reached_by_level, reached_counts, some_leaves_one}
use Rattle.def_model.specs.Cuts.{one_less}
use Rattle.walk_back.proofs.descent.step_to.Goals as goal

pub least_undone-p-requires-clause-few : goal.least_undone-p-requires-clause-few
least_undone-p-requires-clause-few c =
    let count : length c.args.cut ≡ length c.args.computation.now.events =
    reached_counts c.args.computation.now.events (test_of c.args.computation.now (predicate_view c.args._pred.now))
    c.args.path.now.items c.args.cut c.requires.reached in
    omega (arith, c.limits.ensures.few)

pub least_undone-p-requires-clause-some : goal.least_undone-p-requires-clause-some
least_undone-p-requires-clause-some c =
    some_leaves_one c.args.computation.now.events (test_of c.args.computation.now (predicate_view c.args._pred.now))
    c.args.path.now.items c.args.cut c.args.level.now
    c.requires.reached c.requires.list c.requires.next

pub returns-clause-reached : goal.returns-clause-reached
returns-clause-reached c =
    let less : c.undo.new.self ≡ one_less c.args.cut c.least_undone-p.result = c.undo.ensures in
    let pushed : c.push.new.self.items ≡ c.args.path.now.items ++ c.least_undone-p.result ∷ [] =
    c.in_ok-push.ensures.items in
    subst (λ (cut : List ℕ). IsReached c.args.computation.now.events (test_of c.args.computation.now (predicate_view
    c.args._pred.now)) c.push.new.self.items cut) (sym less)
    (subst (λ (path : List ℕ). IsReached c.args.computation.now.events (test_of c.args.computation.now (predicate_view
    c.args._pred.now)) path (one_less c.args.cut c.least_undone-p.result)) (sym pushed)
    (reached_by_level c.args.computation.now.events (test_of c.args.computation.now (predicate_view c.args._pred.now))
    c.args.path.now.items c.args.cut c.args.level.now
    c.least_undone-p.result c.requires.reached c.requires.list c.requires.next c.least_undone-p.ensures.leaves
    c.least_undone-p.ensures.least))
