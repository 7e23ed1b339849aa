-- Only a name has a condition.
use Rattle.std.proofs.Common.{sym, ◌∙◌}
use Rattle.app_arguments.proofs.Parts.{as_named}
use Rattle.app_arguments.proofs.condition.named_condition.Goals as goal

pub returns-then-not-is_name : goal.returns-then-not-is_name
returns-then-not-is_name c = λ yes. absurd (let no = sym c.is_name.ensures ∙ c.if-not-is_name.true in cc (yes, no))

pub returns : goal.returns
returns c =
    as_named c.args.name.now c.args.word.now (sym c.is_name.ensures ∙ c.if-not-is_name.false) c.condition_on.result
    c.condition_on.ensures
