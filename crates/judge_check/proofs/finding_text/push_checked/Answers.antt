-- Two lines one after the other.
use Rattle.std.proofs.Common.{arith}
use Rattle.std.proofs.lemmas.Grind.{common_steps}
use Rattle.judge_check.specs.Views.{checked_view}
use Rattle.judge_check.proofs.FindingTexts.{two_lines}
use Rattle.judge_check.proofs.finding_text.push_checked.Goals as goal

pub returns : goal.returns
returns c = rw (two_lines (checked_view c.args.checked.now)) (grind (arith, common_steps))
