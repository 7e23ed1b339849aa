-- The words that stay are those that `retain` keeps.
use Rattle.std.proofs.Common.{not, String}
use Rattle.std.specs.Global.{Global}
use Rattle.std.proofs.lemmas.List.Elements.{filter_from_retain}
use Rattle.pd_cli.specs.Explained.{is_explain_word}
use Rattle.pd_cli.proofs.explaining.without_explain.Goals as goal

pub returns-clause-others : goal.returns-clause-others
returns-clause-others c =
    filter_from_retain _ (λ (argument : String Global). not (is_explain_word argument)) (λ p x b q r. search) _
    c.args.arguments.items _ c.retain.ensures.filtered
