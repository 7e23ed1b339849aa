-- The copies so far.
use Rattle.std.proofs.Common.{◌≡◌, map, take}
use Rattle.judge_shared.specs.Sharing.{bare}
use Rattle.pd_report.specs.Views.{answer_view}
use Rattle.judge_shared.proofs.bare.bare_answers.Given as goal

abbrev pub invariant-loop-answer : goal.invariant-loop-answer
invariant-loop-answer l =
    map answer_view l.copies.items ≡ map (λ answer. bare (answer_view answer)) (take l.answer-index l.answers)
