-- The text is cut at its colon, if it has one.
use Rattle.std.proofs.Common.{List, ℕ, None, subst, arith}
use Rattle.std.proofs.lemmas.Str.Pattern.{split_parts}
use Rattle.app_arguments.specs.ConditionViews.{IsNamed, IsOnName}
use Rattle.app_arguments.proofs.Parts.{lacks_each, with_colon, without_colon}
use Rattle.app_arguments.proofs.condition.condition_of.Goals as goal

pub returns-in_default : goal.returns-in_default
returns-in_default c =
    let none = rw c.in_default.is at
    (split_parts 58 c.args.text.now c.split_once.result c.split_once.ensures.cases (omega arith)) in
    without_colon c.args.text.now (lacks_each 58 c.args.text.now none) c.condition_on.result
    (subst (λ (word : List ℕ). IsOnName None word c.condition_on.result) c.as_bytes.ensures.value
    c.condition_on.ensures)

pub returns : goal.returns
returns c =
    let cut = rw c.in-Some.is at
    (split_parts 58 c.args.text.now c.split_once.result c.split_once.ensures.cases (omega arith)) in
    with_colon c.args.text.now c.in-Some.name.now c.in-Some.word.now cut.0 (lacks_each 58 c.in-Some.name.now cut.1)
    c.named_condition.result
    (subst (λ (name : List ℕ). IsNamed name c.in-Some.word.now c.named_condition.result) c.as_bytes-2.ensures.value
    (subst (λ (word : List ℕ). IsNamed c.as_bytes-2.result.now word c.named_condition.result)
    c.as_bytes-3.ensures.value c.named_condition.ensures))
