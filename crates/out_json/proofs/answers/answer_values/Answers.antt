-- All answers.
use Rattle.std.proofs.Common.{arith}
use Rattle.std.proofs.lemmas.List.{take_all}
use Rattle.pd_report.specs.Views.{answer_view}
use Rattle.serde_json.specs.View.{view}
use Rattle.out_json.specs.JsonReports.{answer_data}
use Rattle.out_json.proofs.Listed.{all_seen}
use Rattle.out_json.proofs.answers.answer_values.Goals as goal

pub returns : goal.returns
returns g c =
    all_seen view (answer_data c.args.names.now (g.P.Places.known c.args.places.now)) answer_view
    c.loop-answer.values.items c.args.answers.now _
    c.loop-answer.invariant (take_all c.loop-answer.answer-index c.args.answers.now (omega arith))
