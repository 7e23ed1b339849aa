-- One answer more, and all of them.
use Rattle.std.proofs.Common.{arith}
use Rattle.std.proofs.lemmas.List.{take_all}
use Rattle.out_json.proofs.Utf8Reports.{all_paths, one_more_path}
use Rattle.out_json.proofs.texts.answers_are_utf8.Goals as goal

pub loop-answer-preserved : goal.loop-answer-preserved
loop-answer-preserved c =
    one_more_path c.args.answers.now c.loop-answer.answer-index c.answer-item.result c.loop-answer-test.true
    c.answer-item.is c.loop-answer.invariant c.definitely_is_utf8.ensures

pub returns : goal.returns
returns c =
    all_paths c.args.answers.now _ c.loop-answer.invariant
    (take_all c.loop-answer.answer-index c.args.answers.now (omega arith))
