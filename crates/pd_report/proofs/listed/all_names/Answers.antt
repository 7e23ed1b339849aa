-- Names, as the words.
use Rattle.std.proofs.Common.{◌∙◌, ◌++◌, map, sym, ap, subst}
use Rattle.def_format.specs.Reports.{IsName}
use Rattle.pd_report.specs.Remaining.{words_left}
use Rattle.pd_report.proofs.Lists.{one_is_none}
use Rattle.pd_report.proofs.listed.all_names.Goals as goal

pub returns-then-not-is_name : goal.returns-then-not-is_name
returns-then-not-is_name c = λ v h e.
    let read = map (λ name. name) c.loop-word.path in
    one_is_none (λ name. name) IsName read c.in-Some.word.now (words_left c.in-Some.rest)
    (λ name lawful same.
    let yes : IsName c.in-Some.word.now = subst IsName (sym same) lawful in
    let no = sym c.is_name.ensures ∙ c.if-not-is_name.true in
    absurd (cc (yes, no))) v h
    (ap (λ left. read ++ left) (sym c.in-Some.ensures) ∙ sym c.loop-word.invariant.read ∙ e)
