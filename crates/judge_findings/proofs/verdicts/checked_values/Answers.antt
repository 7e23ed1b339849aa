-- The verdicts on all answers.
use Rattle.std.proofs.Common.{arith}
use Rattle.std.proofs.lemmas.List.{take_all}
use Rattle.judge_check.specs.Views.{checked_view}
use Rattle.serde_json.specs.View.{view}
use Rattle.judge_findings.specs.JsonFindings.{checked_data}
use Rattle.out_json.proofs.Listed.{all_seen}
use Rattle.judge_findings.proofs.verdicts.checked_values.Goals as goal

pub returns : goal.returns
returns c =
    all_seen view checked_data checked_view c.loop-checked.values.items c.args.answers.now _
    c.loop-checked.invariant (take_all c.loop-checked.checked-index c.args.answers.now (omega arith))
