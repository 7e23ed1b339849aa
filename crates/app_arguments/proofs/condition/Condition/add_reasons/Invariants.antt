-- Each answer so far that is asked for was added.
use Rattle.std.proofs.Common.{◌≡◌, ◌++◌, map, take}
use Rattle.pd_report.specs.Views.{answer_view}
use Rattle.app_arguments.specs.Conditions.{reasons_of}
use Rattle.app_arguments.specs.ConditionViews.{condition_view, reason_view}
use Rattle.app_arguments.proofs.condition.Condition.add_reasons.Given as goal

abbrev pub invariant-loop-answer : goal.invariant-loop-answer
invariant-loop-answer l = map reason_view l.reasons.items
    ≡ map reason_view l.initial.reasons.items
    ++ reasons_of (map answer_view (take l.answer-index l.answers)) (condition_view l.self)
