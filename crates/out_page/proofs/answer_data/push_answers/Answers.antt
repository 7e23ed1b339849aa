-- The first one, and then each after its comma.
use Rattle.std.proofs.Common.{arith}
use Rattle.std.proofs.lemmas.List.{take_all}
use Rattle.out_page.specs.AnswerData.{answer_text}
use Rattle.pd_report.specs.Views.{answer_view}
use Rattle.out_page.proofs.Listed.{listed_seen}
use Rattle.out_page.proofs.answer_data.push_answers.Goals as goal

pub returns : goal.returns
returns c =
    let others = c.in-Some.others.now in
    listed_seen (answer_text c.args.names.now) answer_view
    c.args.out.now.items c.push_answer.new.out.items c.loop-answer.out.items
    c.args.answers.now others _ c.in-Some.first.now c.in-Some.ensures.cases.0 c.in_ok-push_answer.ensures
    c.loop-answer.invariant (take_all c.loop-answer.answer-index others (omega arith))
