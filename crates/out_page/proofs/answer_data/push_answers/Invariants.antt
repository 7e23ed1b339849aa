-- The others so far.
use Rattle.std.proofs.Common.{◌≡◌, ◌∷◌, ◌++◌, take}
use Rattle.std.specs.Prelude.{flat_map}
use Rattle.out_page.specs.AnswerData.{answer_text}
use Rattle.pd_report.specs.Views.{answer_view}
use Rattle.out_page.proofs.answer_data.push_answers.Given as goal

abbrev pub invariant-loop-answer : goal.invariant-loop-answer
invariant-loop-answer l =
    l.out.items
    ≡ l.initial.out.items ++ flat_map (λ x. 44 ∷ answer_text l.names (answer_view x)) (take l.answer-index l.others)
