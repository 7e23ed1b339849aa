-- The report of all bytes that readers have left, if these are known, and a refusal that is the report.
use Rattle.std.proofs.Common.{◌≡◌, ℕ, List, sym, subst, Ok, Err}
use Rattle.std.specs.Prelude.{IfSome, IsErrAnd, Result}
use Rattle.std.specs.List.{AllZip}
use Rattle.def_format.specs.Documents.{Inquiry}
use Rattle.def_format.specs.Reports.{Report}
use Rattle.def_judgement.specs.Judgements.{IsJudgement, RawStream, ended_streams}
use Rattle.def_judgement.specs.Writes.{IsKnownAs, Source}
use Rattle.def_judgement.proofs.WholeStreams.{given_whole}
use Rattle.pd_report.specs.declared.report.Report.{Report as Judged}
use Rattle.judge_session.specs.SessionReports.{IsReportOfInputs}
use Rattle.judge_session.specs.Unanswered.{IsUnanswered, given_report, refused_report}
use Rattle.judge_session.specs.declared.unanswered.Unanswered.{Unanswered}
use Rattle.judge_session.proofs.SessionReports.{of_given}

-- what holds of a refusal, if it is the report
pub refusal_reported : (result : Result Judged Unanswered) (unanswered : Unanswered) (P Q : Report → Type 0)
    → ((report : Report) → P report → Q report) → IsErrAnd result (λ u. u ≡ unanswered) → IsUnanswered P unanswered
    → IfSome (given_report result) Q
refusal_reported (Ok x) unanswered P Q f same p = absurd same
refusal_reported (Err u) unanswered P Q f same p =
    subst (IsUnanswered Q) (sym same) (of_given (refused_report unanswered) P Q f p)

-- if it is known of each source what it gives, and that no read of it fails, the report of all that
abbrev pub IsReportOfWhole : Inquiry → List Source → Report → Type 0
IsReportOfWhole document inputs report =
    (streams : List (List ℕ)) → AllZip IsKnownAs inputs streams → IsJudgement document (ended_streams streams) report

-- the report of sources is that of all that they are known to give
pub whole_report : (asked : Inquiry) (inputs : List Source) (report : Report)
    → IsReportOfInputs asked inputs report → IsReportOfWhole asked inputs report
whole_report asked inputs report right = λ streams known.
    subst (λ (all : List RawStream). IsJudgement asked all report)
    (given_whole inputs streams right.streams known right.are_given) right.right
