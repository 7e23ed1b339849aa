-- Names, at least one.
use Rattle.std.proofs.Common.{map}
use Rattle.std.specs.List.{AllByRecursion}
use Rattle.std.proofs.lemmas.List.{length-map}
use Rattle.std.proofs.lemmas.Result.{IfOk-weaker}
use Rattle.def_format.specs.Reports.{IsName}
use Rattle.def_format.proofs.OneReport.{names_lack}
use Rattle.pd_report.specs.Remaining.{words_left}
use Rattle.pd_report.proofs.Lists.{map_same, found_listed}
use Rattle.pd_report.proofs.listed.names.Goals as goal

pub returns : goal.returns
returns c =
    IfOk-weaker c.all_names.result _ _ (found_listed (λ found. found) (map (λ name. name))
    (AllByRecursion IsName) (λ ns. length-map ns (λ name. name)) (λ ns h. rw (map_same ns) (names_lack ns h))
    c.args.word.now (words_left c.new.result) c.new.ensures)
    c.all_names.ensures
