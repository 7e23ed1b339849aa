-- The answers so far.
use Rattle.std.proofs.Common.{◌≡◌, map, take}
use Rattle.pd_report.specs.Views.{answer_view}
use Rattle.serde_json.specs.View.{view}
use Rattle.out_json.specs.JsonReports.{answer_data}
use Rattle.out_json.proofs.answers.answer_values.Given as goal

abbrev pub invariant-loop-answer : goal.invariant-loop-answer
invariant-loop-answer g l =
    map view l.values.items
    ≡ map (λ answer. answer_data l.names (g.P.Places.known l.places) (answer_view answer))
    (take l.answer-index l.answers)
