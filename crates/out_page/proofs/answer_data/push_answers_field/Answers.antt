-- The field, part by part.
use Rattle.std.proofs.Common.{map}
use Rattle.std.specs.Prelude.{codes}
use Rattle.out_page.specs.AnswerData.{answer_text}
use Rattle.out_page.specs.JsonTexts.{listed}
use Rattle.out_page.proofs.Parts.{three_parts}
use Rattle.pd_report.specs.Views.{answer_view}
use Rattle.out_page.proofs.answer_data.push_answers_field.Goals as goal

pub returns : goal.returns
returns c =
    three_parts c.args.out.now.items c.push_bytes.new.out.items c.push_answers.new.out.items
    c.push_bytes-2.new.out.items
    (codes "\"answers\":[") (listed (answer_text c.args.names.now) (map answer_view c.args.answers.now)) (codes "]")
    c.in_ok-push_bytes.ensures.ok c.in_ok-push_answers.ensures c.in_ok-push_bytes-2.ensures.ok
