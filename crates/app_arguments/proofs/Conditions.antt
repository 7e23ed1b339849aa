-- The conditions that are found are those of the list.
use Rattle.std.proofs.Common.{◌≡◌, List, Option, None, Some, sym, subst}
use Rattle.std.specs.Prelude.{MatchOption}
use Rattle.clap.specs.Walk.{Text}
use Rattle.app_arguments.specs.Arguments.{AreConditions}
use Rattle.app_arguments.specs.ConditionViews.{fail_on_view}
use Rattle.app_arguments.specs.Conditions.{AreLawful, list_text}
use Rattle.judge_runs.specs.Wishes.{Condition}
use Rattle.app_arguments.specs.Views.{Finds}
use Rattle.app_arguments.specs.declared.fail_on.FailOn.{FailOn}

-- what a list comes to
pub conditions_found : (given : Option Text) (list : Text) → given ≡ Some list → (found : Option FailOn)
    → MatchOption found ((conditions : List Condition) → AreLawful conditions → ¬ (list ≡ list_text conditions))
    (λ fail_on. AreLawful (fail_on_view fail_on) × (list ≡ list_text (fail_on_view fail_on)))
    → Finds (AreConditions given) fail_on_view found
conditions_found given list is None none = λ conditions named.
    let named_by_list = subst (λ (o : Option Text). AreConditions o conditions) is named in
    none conditions named_by_list.0 named_by_list.1
conditions_found given list is (Some fail_on) found =
    subst (λ (o : Option Text). AreConditions o (fail_on_view fail_on)) (sym is) found
