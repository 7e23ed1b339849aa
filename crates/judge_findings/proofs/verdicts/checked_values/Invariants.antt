-- The verdicts on the answers so far.
use Rattle.std.proofs.Common.{◌≡◌, map, take}
use Rattle.judge_check.specs.Views.{checked_view}
use Rattle.serde_json.specs.View.{view}
use Rattle.judge_findings.specs.JsonFindings.{checked_data}
use Rattle.judge_findings.proofs.verdicts.checked_values.Given as goal

abbrev pub invariant-loop-checked : goal.invariant-loop-checked
invariant-loop-checked l =
    map view l.values.items ≡ map (λ checked. checked_data (checked_view checked)) (take l.checked-index l.answers)
