-- Each answer so far that isn't as wished was added.
use Rattle.std.proofs.Common.{◌≡◌, ◌++◌, map, take}
use Rattle.serde_json.specs.View.{view}
use Rattle.pd_report.specs.Views.{answer_view}
use Rattle.judge_runs.specs.Views.{wish_view}
use Rattle.judge_results.specs.Results.{datas_by}
use Rattle.judge_results.proofs.broken.add_broken.Given as goal

abbrev pub invariant-loop-answer : goal.invariant-loop-answer
invariant-loop-answer l = map view l.found.items
    ≡ map view l.initial.found.items ++ datas_by (map answer_view (take l.answer-index l.answers)) (wish_view l.wish)
