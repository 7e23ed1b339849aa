-- What is the report of anything is lawful, so that it is read from its text.
use Rattle.std.specs.Prelude.{ℕ, List}
use Rattle.def_format.specs.Documents.{Inquiry}
use Rattle.def_format.specs.Reports.{Report, IsLawful}
use Rattle.def_judgement.specs.Judgements.{RawStream, IsJudgement, IsReportOfBundle}

-- the report of a document's bytes and of streams is lawful
abbrev pub JudgementIsLawful : Type 0
JudgementIsLawful =
    (inquiry : Inquiry) (streams : List RawStream) (report : Report) → IsJudgement inquiry streams report
    → IsLawful report

-- so is the report of a bundle
abbrev pub ReportIsLawful : Type 0
ReportIsLawful = (bytes : List ℕ) (report : Report) → IsReportOfBundle bytes report → IsLawful report
