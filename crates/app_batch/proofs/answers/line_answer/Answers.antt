-- A line that is too long.
use Rattle.std.proofs.Common.{subst, sym}
use Rattle.app_arguments.specs.ConditionViews.{fail_on_view}
use Rattle.app_batch.specs.Answers.{IsAnswer}
use Rattle.app_batch.specs.Views.{answer_view}
use Rattle.app_batch.proofs.LineLengths.{too_long}
use Rattle.pd_spec.specs.Views.{options_view}
use Rattle.read_sessions.specs.SessionLines.{Line}
use Rattle.app_batch.proofs.answers.line_answer.Goals as goal

pub returns-in_ok-failure-in-Long-clause-answer : goal.returns-in_ok-failure-in-Long-clause-answer
returns-in_ok-failure-in-Long-clause-answer g c = λ bytes is.
    subst (λ (line : Line). IsAnswer (options_view c.args.asked.now.options.now)
    (fail_on_view c.args.asked.now.fail_on.now) c.args.number line (answer_view c.in_ok-failure-in-Long.field-0))
    (sym (too_long bytes (c.args.line.now) c.in-Long.is is)) c.in_ok-failure-in-Long.ensures
