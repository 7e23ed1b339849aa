-- The text of a value that has no float, and an LF.
use Rattle.std.proofs.Common.{◌++◌, ◌∷◌, [], ◌∙◌, ap}
use Rattle.serde_json.specs.Written.{compact_text, has_float}
use Rattle.judge_check.specs.Views.{finding_view}
use Rattle.judge_findings.proofs.Whole.{finding_whole}
use Rattle.judge_findings.proofs.json_finding.finding_json.Goals as goal

pub returns : goal.returns
returns c =
    c.in_ok-push.ensures.items
    ∙ ap (λ bytes. bytes ++ 10 ∷ []) (c.in_ok-text.ensures.text (ap has_float c.in_ok-value.ensures
    ∙ finding_whole (finding_view c.args.finding.now))
    ∙ ap compact_text c.in_ok-value.ensures)
