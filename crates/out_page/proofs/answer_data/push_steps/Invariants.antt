-- The others so far.
use Rattle.std.proofs.Common.{◌≡◌, ◌∷◌, ◌++◌, take}
use Rattle.std.specs.Prelude.{flat_map}
use Rattle.out_page.specs.AnswerData.{process_number}
use Rattle.pd_report.specs.Steps.{name_at, names_view}
use Rattle.out_page.proofs.answer_data.push_steps.Given as goal

abbrev pub invariant-loop-step : goal.invariant-loop-step
invariant-loop-step l =
    l.out.items
    ≡ l.initial.out.items ++ flat_map (λ x. 44 ∷ process_number l.names (name_at (names_view l.texts) x))
    (take l.step-index l.others)
