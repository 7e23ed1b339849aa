-- The text of a value that has no float, and an LF.
use Rattle.std.proofs.Common.{◌++◌, ◌∷◌, [], ◌∙◌, ap}
use Rattle.serde_json.specs.Written.{compact_text, has_float}
use Rattle.pd_report.specs.Views.{report_view}
use Rattle.out_json.proofs.Floats.{report_whole}
use Rattle.out_json.proofs.json_report.json_text_at.Goals as goal

pub returns : goal.returns
returns g c =
    c.in_ok-push.ensures.items
    ∙ ap (λ bytes. bytes ++ 10 ∷ []) (c.in_ok-text.ensures.text (ap has_float c.in_ok-value.ensures
    ∙ report_whole c.args.names.now (g.P.Places.known c.args.places.now) (report_view c.args.report.now))
    ∙ ap compact_text c.in_ok-value.ensures)
