-- Appends an answer's two lines.
use Rattle.std.proofs.Common.{arith}
use Rattle.std.proofs.lemmas.Grind.{common_steps}
use Rattle.pd_report.specs.Views.{answer_view}
use Rattle.pd_report.proofs.Texts.{two_lines}
use Rattle.pd_report.proofs.answer_text.push_answer.Goals as goal

pub returns : goal.returns
returns c = rw (two_lines (answer_view c.args.answer.now)) (grind (arith, common_steps))
