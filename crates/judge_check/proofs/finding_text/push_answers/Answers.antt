-- One more predicate has two more lines.
use Rattle.judge_check.proofs.FindingTexts.{verdicts_more}
use Rattle.judge_check.proofs.finding_text.push_answers.Goals as goal

pub loop-checked-preserved : goal.loop-checked-preserved
loop-checked-preserved c =
    verdicts_more c.args.out.now.items c.loop-checked.out.items c.push_checked.new.out.items c.args.answers.now
    c.loop-checked.checked-index c.checked-item.result c.loop-checked-test.true c.checked-item.is
    c.loop-checked.invariant c.in_ok-push_checked.ensures
