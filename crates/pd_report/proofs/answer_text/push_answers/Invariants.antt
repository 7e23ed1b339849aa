-- What the loops of `push_answers` keep.
use Rattle.std.proofs.Common.{◌≡◌, ◌++◌, take}
use Rattle.pd_report.specs.Views.{answers_text}
use Rattle.pd_report.proofs.answer_text.push_answers.Given as goal

abbrev pub invariant-loop-answer : goal.invariant-loop-answer
invariant-loop-answer l =
    l.out.items ≡ l.initial.out.items ++ answers_text (take l.answer-index l.answers)
