-- No number of an answer is a float.
use Rattle.std.proofs.Common.{ap, ◌∙◌, option_map}
use Rattle.serde_json.specs.Written.{has_float}
use Rattle.pd_report.specs.Views.{report_view}
use Rattle.out_lines.proofs.Whole.{answer_whole}
use Rattle.out_lines.proofs.answers.answer_line.Goals as goal

pub line_of-requires : goal.line_of-requires
line_of-requires c =
    ap has_float c.in_ok-value.ensures
    ∙ answer_whole (option_map (λ id. id.now) c.args.id) c.args.names.now (report_view c.args.report.now) c.args.status
