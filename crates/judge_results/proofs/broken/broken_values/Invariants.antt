-- Each wish so far was looked at.
use Rattle.std.proofs.Common.{◌≡◌, map, take}
use Rattle.serde_json.specs.View.{view}
use Rattle.pd_report.specs.Views.{answer_view}
use Rattle.judge_runs.specs.Views.{wishes_view}
use Rattle.judge_results.specs.Results.{broken_datas}
use Rattle.judge_results.proofs.broken.broken_values.Given as goal

abbrev pub invariant-loop-wish : goal.invariant-loop-wish
invariant-loop-wish l =
    map view l.found.items ≡ broken_datas (wishes_view (take l.wish-index l.wishes)) (map answer_view l.answers)
