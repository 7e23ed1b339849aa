-- Each wish so far was looked at.
use Rattle.std.proofs.Common.{◌≡◌, map, take}
use Rattle.pd_report.specs.Views.{answer_view}
use Rattle.judge_runs.specs.Views.{wishes_view}
use Rattle.judge_runs.specs.Wishes.{broken}
use Rattle.judge_runs.proofs.wish.broken.Given as goal

abbrev pub invariant-loop-wish : goal.invariant-loop-wish
invariant-loop-wish l = map (λ text. text.items) l.found.items
    ≡ broken (wishes_view (take l.wish-index l.wishes)) (map answer_view l.answers)
