-- The only answers.
use Rattle.std.proofs.Common.{sym, subst, arith}
use Rattle.def_model.specs.Predicates.{test_of}
use Rattle.pd_pred.specs.Views.{predicate_view}
use Rattle.walk_back.specs.Answers.{AreAnswers}
use Rattle.walk_back.specs.declared.answers.Answers.{Answers}
use Rattle.walk.proofs.one.answer_one.Goals as goal

pub returns-clause-right : goal.returns-clause-right
returns-clause-right g c = (
  c.in_ok-answers.ensures.right.0,
  subst (λ (answers : Answers).
      AreAnswers c.args.computation.now.events (test_of c.args.computation.now (predicate_view c.args.pred.now))
      c.args.width c.in_ok-answers.ensures.right.0 answers) (sym c.remove.ensures.value)
      (c.in_ok-answers.ensures.right.1.each 0 c.args.pred c.remove.result (omega arith)),
)
