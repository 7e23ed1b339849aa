-- What a line says is what its answer is of.
use Rattle.std.proofs.Common.{List, ℕ, Option, option_map, subst, sym}
use Rattle.app_arguments.specs.ConditionViews.{fail_on_view}
use Rattle.app_batch.specs.Answers.{IsAnswer, IsFailure}
use Rattle.app_batch.specs.Views.{answer_view}
use Rattle.pd_spec.specs.Views.{options_view}
use Rattle.read_sessions.specs.Views.{line_view}
use Rattle.read_sessions.specs.declared.session.SessionLine.{SessionLine}
use Rattle.app_batch.proofs.answers.said_answer.Goals as goal

pub returns-in_ok-failure-in-Tells-clause-answer : goal.returns-in_ok-failure-in-Tells-clause-answer
returns-in_ok-failure-in-Tells-clause-answer g c =
    let answer = answer_view c.in_ok-failure-in-Tells.field-0 in
    subst (λ (said : SessionLine). IsAnswer (options_view c.args.asked.now.options.now)
    (fail_on_view c.args.asked.now.fail_on.now) c.args.number (line_view said) answer) (sym c.in-Tells.is)
    (subst (λ (id : Option (List ℕ)). IsFailure id c.args.number c.in-Tells.error.bytes.items answer) c.id_of.ensures
    (subst (λ (error : List ℕ). IsFailure (option_map (λ id. id.now) c.id_of.result) c.args.number error answer)
    c.as_str.ensures.value c.in_ok-failure-in-Tells.ensures))

pub returns-in_ok-failure-in-NoSession-clause-answer : goal.returns-in_ok-failure-in-NoSession-clause-answer
returns-in_ok-failure-in-NoSession-clause-answer g c =
    subst (λ (said : SessionLine). IsAnswer (options_view c.args.asked.now.options.now)
    (fail_on_view c.args.asked.now.fail_on.now) c.args.number (line_view said)
    (answer_view c.in_ok-failure-in-NoSession.field-0)) (sym c.in-NoSession.is) c.in_ok-failure-in-NoSession.ensures

pub returns-in_ok-failure-in-NoJson-clause-answer : goal.returns-in_ok-failure-in-NoJson-clause-answer
returns-in_ok-failure-in-NoJson-clause-answer g c =
    subst (λ (said : SessionLine). IsAnswer (options_view c.args.asked.now.options.now)
    (fail_on_view c.args.asked.now.fail_on.now) c.args.number (line_view said)
    (answer_view c.in_ok-failure-in-NoJson.field-0)) (sym c.in-NoJson.is) c.in_ok-failure-in-NoJson.ensures
