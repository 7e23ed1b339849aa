-- The next avoiding cuts.
use Rattle.std.proofs.Common.{◌+◌, filter, not, ◌∙◌}
use Rattle.def_model.specs.Predicates.{test_of}
use Rattle.pd_pred.specs.Views.{predicate_view}
use Rattle.def_model.proofs.ListedCuts.{avoiding_consistent, next_consistent}
use Rattle.walk_back.proofs.LevelLists.{list_at}
use Rattle.walk_back.proofs.avoiding.next_avoiding.Goals as goal

pub next_of_any-requires-clause-cuts : goal.next_of_any-requires-clause-cuts
next_of_any-requires-clause-cuts g c κs within =
    avoiding_consistent c.avoiding_levels.ensures.level c.args.computation.now.events
    (test_of c.args.computation.now (predicate_view c.args.pred.now)) c.args.level.now.number c.args.level.now.cuts
    c.requires.list

pub without_satisfying-requires : goal.without_satisfying-requires
without_satisfying-requires g c = (
  c.type_bounds.sync-T,
  (
    c.type_bounds.sync-G,
    next_consistent c.args.computation.now.events c.args.level.now.cuts c.in_ok-whole.whole.cuts
        c.in_ok-whole.ensures.list,
  ),
)

pub returns-clause-list : goal.returns-clause-list
returns-clause-list g c =
    list_at c.args.computation.now.events (test_of c.args.computation.now (predicate_view c.args.pred.now))
    c.in_ok-next.next (c.args.level.now.number + 1)
    (filter (λ cut. not (test_of c.args.computation.now (predicate_view c.args.pred.now) cut)) c.in_ok-whole.whole.cuts)
    (c.in_ok-next.ensures.number ∙ c.in_ok-whole.ensures.number)
    c.in_ok-next.ensures.cuts
    (c.avoiding_levels.ensures.next c.args.computation.now.events (test_of c.args.computation.now (predicate_view
    c.args.pred.now))
    c.args.level.now.number c.args.level.now.cuts c.in_ok-whole.whole.cuts c.requires.list c.in_ok-whole.ensures.list)
