-- The report of a session or of a bundle that readers gave.
use Rattle.std.specs.Prelude.{◌≤◌, ℕ, length, List}
use Rattle.std.specs.List.{AllZip}
use Rattle.def_format.specs.Documents.{Inquiry}
use Rattle.def_format.specs.Limits.{bundle_byte_limit}
use Rattle.def_format.specs.Reports.{Report}
use Rattle.def_judgement.specs.Headline.{IsTrueReport}
use Rattle.def_judgement.specs.Judgements.{IsJudgement, IsReportOfBundle, RawStream}
use Rattle.def_judgement.specs.Writes.{IsGivenAs, IsWholeInput, Source}

-- the report of a document, with what is asked, and of the streams that these sources gave, which is true
pub record IsTrueReportOfInputs (inquiry : Inquiry) (inputs : List Source) (report : Report) : Type 0 where
  pub streams : List RawStream
  pub are_given : AllZip IsGivenAs inputs streams
  pub right : IsJudgement inquiry streams report
  pub truth : IsTrueReport inquiry streams report

-- the report of the bundle that a reader with this left gave to its end, and that is within the limit
pub record IsReportOfRead (input : Source) (report : Report) : Type 0 where
  pub bundle : List ℕ
  pub is_given : IsWholeInput input bundle
  pub fits : length bundle ≤ bundle_byte_limit
  pub right : IsReportOfBundle bundle report
