-- An answer that is asked for is found among the answers if there is one.
use Rattle.std.proofs.Common.{rules, tests, sym, ◌∙◌}
use Rattle.std.proofs.lemmas.Iterator.{YieldsList-from_slice}
use Rattle.std.proofs.lemmas.Iterator.Search.{any_from_yields_List}
use Rattle.def_format.proofs.ListTests.{list_any-map}
use Rattle.pd_report.specs.Views.{answer_view}
use Rattle.app_arguments.specs.Conditions.{is_asked_for}
use Rattle.app_arguments.specs.ConditionViews.{condition_view}
use Rattle.app_arguments.proofs.condition.Condition.is_met.Goals as goal

pub returns : goal.returns
returns c =
    any_from_yields_List (λ x. is_asked_for (condition_view c.args.self.now) (answer_view x)) _ _ _ c.any.ensures.ran
    (YieldsList-from_slice c.args.answers.now c.iter.ensures.rest) (λ x b q k. search (rules, tests))
    ∙ sym (list_any-map (is_asked_for (condition_view c.args.self.now)) answer_view c.args.answers.now)
