-- What is asked is cut at its first sign.
use Rattle.std.proofs.Common.{◌∙◌, sym, arith}
use Rattle.std.proofs.lemmas.Str.Pattern.{split_once_first}
use Rattle.pd_spec.proofs.OwnNames.{decided_by_parts, has_no_name, own_parts}
use Rattle.pd_spec.proofs.changes.own_name.Goals as goal

pub returns-in_default : goal.returns-in_default
returns-in_default c =
    has_no_name c.args.asked.now (rw c.in_default.is at
    (split_once_first 61 c.args.asked.now c.split_once.result c.split_once.ensures.cases (omega arith)))

pub returns-then-are_name_and_text : goal.returns-then-are_name_and_text
returns-then-are_name_and_text c =
    let cut = rw c.in-Some.is at
    (split_once_first 61 c.args.asked.now c.split_once.result c.split_once.ensures.cases (omega arith)) in
    own_parts c.args.asked.now c.in-Some.name.now c.in-Some.text.now cut
    (sym c.are_name_and_text.ensures ∙ c.if-are_name_and_text.true)

pub returns : goal.returns
returns c =
    let cut = rw c.in-Some.is at
    (split_once_first 61 c.args.asked.now c.split_once.result c.split_once.ensures.cases (omega arith)) in
    decided_by_parts c.args.asked.now c.in-Some.name.now c.in-Some.text.now cut
    ∙ (sym c.are_name_and_text.ensures ∙ c.if-are_name_and_text.false)
