-- Each answer so far that isn't as wished was added.
use Rattle.std.proofs.Common.{◌≡◌, ◌++◌, map, take}
use Rattle.pd_report.specs.Views.{answer_view}
use Rattle.judge_runs.specs.Views.{wish_view}
use Rattle.judge_runs.specs.Wishes.{broken_by}
use Rattle.judge_runs.proofs.wish.Wish.add_broken.Given as goal

abbrev pub invariant-loop-answer : goal.invariant-loop-answer
invariant-loop-answer l = map (λ text. text.items) l.found.items
    ≡ map (λ text. text.items) l.initial.found.items
    ++ broken_by (map answer_view (take l.answer-index l.answers)) (wish_view l.self)
