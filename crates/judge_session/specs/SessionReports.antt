-- The report of a session that readers gave.
use Rattle.std.specs.Prelude.{List}
use Rattle.std.specs.List.{AllZip}
use Rattle.def_format.specs.Documents.{Inquiry}
use Rattle.def_format.specs.Reports.{Report}
use Rattle.def_judgement.specs.Judgements.{IsJudgement, RawStream}
use Rattle.def_judgement.specs.Writes.{IsGivenAs, Source}

-- the report of a document, with what is asked, and of the streams that these sources gave
pub record IsReportOfInputs (inquiry : Inquiry) (inputs : List Source)
    (report : Report) : Type 0 where
  pub streams : List RawStream
  pub are_given : AllZip IsGivenAs inputs streams
  pub right : IsJudgement inquiry streams report
