-- The conditions so far name no other predicate: the first name is that of the conditions that are left.
use Rattle.std.proofs.Common.{◌≡◌, drop, map}
use Rattle.pd_spec.specs.Named.{named_view}
use Rattle.app_arguments.specs.Conditions.{unknown_name}
use Rattle.judge_runs.specs.Wishes.{names_of}
use Rattle.app_arguments.specs.ConditionViews.{conditions_view}
use Rattle.app_arguments.proofs.fail_on.unknown_name.Given as goal

abbrev pub invariant-loop-condition : goal.invariant-loop-condition
invariant-loop-condition l =
    unknown_name (names_of (map named_view l.predicates)) (conditions_view l.conditions)
    ≡ unknown_name (names_of (map named_view l.predicates)) (conditions_view (drop l.condition-index l.conditions))
