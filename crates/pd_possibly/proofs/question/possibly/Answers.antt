-- The answer of the walk, in both wordings.
use Rattle.walk_back.specs.Answers.{possibly_answer_view}
use Rattle.def_model.specs.Predicates.{test_of}
use Rattle.pd_pred.specs.Views.{predicate_view}
use Rattle.pd_possibly.proofs.ObservedAnswers.{observed_answer}
use Rattle.pd_possibly.proofs.question.possibly.Goals as goal

pub returns-clause-observed : goal.returns-clause-observed
returns-clause-observed g c =
    observed_answer c.args.computation.now.events (test_of c.args.computation.now (predicate_view c.args.pred.now))
    c.args.width (possibly_answer_view c.in_ok-answer.answer) c.observed.ensures.every_cut c.observed.ensures.both_ways
    c.limits.ensures.acyclic c.in_ok-answer.ensures
