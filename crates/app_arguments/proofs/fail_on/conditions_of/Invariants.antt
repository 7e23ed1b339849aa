-- What the loop of `conditions_of` keeps.
use Rattle.std.proofs.Common.{◌≡◌, ◌++◌, length, map}
use Rattle.std.specs.List.{AllByRecursion}
use denote.Text.{Utf8}
use denote.Shadow.{shadow}
use Rattle.app_arguments.specs.Conditions.{IsLawful, condition_text}
use Rattle.app_arguments.specs.ConditionViews.{conditions_view}
use Rattle.pd_report.specs.Reading.{pieces}
use Rattle.app_arguments.proofs.fail_on.conditions_of.Given as goal

abbrev pub invariant-loop-first : goal.invariant-loop-first
invariant-loop-first l = shadow (Utf8 l.left) × record {
  lawful : AllByRecursion IsLawful (conditions_view l.conditions.items);
  read : pieces 44 l.list ≡ map condition_text (conditions_view l.conditions.items) ++ pieces 44 l.left;
}

abbrev pub decreases-loop-first : goal.decreases-loop-first
decreases-loop-first l = length l.left
