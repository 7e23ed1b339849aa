-- Numbers, as the words.
use Rattle.std.proofs.Common.{◌∙◌, ◌++◌, map, sym, ap}
use Rattle.std.specs.Prelude.{decimal}
use Rattle.def_format.specs.Reports.{Fits}
use Rattle.pd_report.specs.Remaining.{words_left}
use Rattle.pd_report.proofs.Lists.{one_is_none}
use Rattle.pd_report.proofs.listed.all_numbers.Goals as goal

pub returns-in_default-number : goal.returns-in_default-number
returns-in_default-number c = λ v h e.
    let read = map decimal c.loop-word.numbers.items in
    one_is_none decimal Fits read c.in-Some.word.now (words_left c.in-Some.rest) c.in_default-number.ensures v h
    (ap (λ left. read ++ left) (sym c.in-Some.ensures) ∙ sym c.loop-word.invariant.read ∙ e)
