-- Each condition so far was looked at.
use Rattle.std.proofs.Common.{◌≡◌, map, take}
use Rattle.std.specs.Prelude.{flat_map}
use Rattle.pd_report.specs.Views.{answer_view}
use Rattle.app_arguments.specs.Conditions.{reasons_of}
use Rattle.app_arguments.specs.ConditionViews.{conditions_view, reason_view}
use Rattle.app_arguments.proofs.fail_on.reasons_of.Given as goal

abbrev pub invariant-loop-condition : goal.invariant-loop-condition
invariant-loop-condition l = map reason_view l.found.items
    ≡ flat_map (reasons_of (map answer_view l.answers)) (conditions_view (take l.condition-index l.conditions))
