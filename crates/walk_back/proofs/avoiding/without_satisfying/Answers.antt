-- What is kept is what the test fails.
use Rattle.std.proofs.Common.{◌∙◌, ap, Bool, false, List}
use Rattle.def_model.specs.Predicates.{test_of}
use Rattle.pd_pred.specs.Views.{predicate_view}
use Rattle.pd_level.specs.Levels.{kept_by}
use Rattle.walk_back.proofs.LevelLists.{kept_filter}
use Rattle.walk_back.proofs.avoiding.without_satisfying.Goals as goal

pub returns-clause-cuts : goal.returns-clause-cuts
returns-clause-cuts g c =
    c.keep.ensures.cuts ∙ (ap (λ (marks : List Bool). kept_by false marks c.args.level.cuts) (c.deref.ensures.value
    ∙ c.in_ok-marks.ensures) ∙ kept_filter (test_of c.args.computation.now (predicate_view c.args.pred.now))
    c.args.level.cuts)
