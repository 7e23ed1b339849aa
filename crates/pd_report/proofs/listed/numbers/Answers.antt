-- Numbers, at least one.
use Rattle.std.proofs.Common.{map}
use Rattle.std.specs.Prelude.{decimal}
use Rattle.std.specs.List.{AllByRecursion}
use Rattle.std.proofs.lemmas.List.{length-map}
use Rattle.std.proofs.lemmas.Result.{IfOk-weaker}
use Rattle.def_format.specs.Reports.{Fits}
use Rattle.def_format.proofs.OneReport.{decimals_lack}
use Rattle.pd_report.specs.Remaining.{words_left}
use Rattle.pd_report.proofs.Lists.{found_listed}
use Rattle.pd_report.proofs.listed.numbers.Goals as goal

pub returns : goal.returns
returns c =
    IfOk-weaker c.all_numbers.result _ _ (found_listed (λ found. found.items) (map decimal) (AllByRecursion Fits)
    (λ ns. length-map ns decimal) decimals_lack c.args.word.now (words_left c.new.result) c.new.ensures)
    c.all_numbers.ensures
