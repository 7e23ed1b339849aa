-- A session with verdicts.
use Rattle.std.proofs.Common.{◌≡◌, ◌++◌}
use Rattle.std.proofs.lemmas.Result.{IfOk-weaker}
use Rattle.def_format.specs.OtherTexts.{check_text}
use Rattle.judge_check.specs.Pieces.{verdicts_text}
use Rattle.judge_check.specs.Views.{finding_view}
use Rattle.judge_check.proofs.FindingTexts.{session_written}
use Rattle.judge_check.proofs.finding_text.push_finding.Goals as goal

pub returns-in-Some : goal.returns-in-Some
returns-in-Some c =
    IfOk-weaker c.push_answers.result (λ _. c.push_answers.new.out.items ≡ c.push_test-in-OfSession.new.out.items
    ++ verdicts_text c.deref.result.now) (λ _. c.push_answers.new.out.items ≡ c.args.out.now.items
    ++ check_text (finding_view c.args.finding.now))
    (λ _ done.
    session_written c.args.finding.now c.in-OfSession.good c.in-OfSession.answers c.in-Some.answers c.deref.result.now
    c.args.out.now.items c.push_test-in-OfSession.new.out.items c.push_answers.new.out.items c.in-OfSession.is
    c.in-Some.is c.deref.ensures.value c.in_ok-push_test-in-OfSession.ensures done)
    c.push_answers.ensures
