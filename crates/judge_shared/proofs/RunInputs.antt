-- The report of the results that readers gave is one of the inquiry and of the streams that they gave.
use Rattle.std.proofs.Common.{ℕ, List, inl, inr, sym, ◌∙◌}
use Rattle.std.specs.List.{AllZip}
use Rattle.def_format.specs.Documents.{Document, Inquiry, IsDocument}
use Rattle.def_format.specs.Reports.{Report}
use Rattle.def_format.specs.Sessions.{StreamResult}
use Rattle.def_judgement.specs.Headline.{JudgementIsTrue}
use Rattle.def_judgement.specs.Judgements.{IsJudgement, RawStream}
use Rattle.def_judgement.specs.Writes.{IsGivenAs, Source}
use Rattle.def_judgement.proofs.WholeStreams.{all_left_unread, all_unread_given}
use Rattle.judge_session.proofs.SessionReports.{judged_of_results}
use Rattle.judge_shared.specs.SharedReports.{IsRunReport, IsRunReportOfInputs}
use Rattle.judge_shared.specs.Sharing.{IsRunReportOfResults}
use Rattle.pd_gather.specs.ReadStreams.{ComesTo}

-- streams whose results come to this have this report
pub run_report_of : JudgementIsTrue → (inquiry : Inquiry) (streams : List RawStream) (document : Document) (count : ℕ)
    (results : List StreamResult) (report : Report) → IsDocument inquiry document
    → ComesTo document.names streams count results → IsRunReportOfResults document count results report
    → IsRunReport inquiry streams report
run_report_of is_true inquiry streams document count results report is comes (inl own) =
    let right : IsJudgement inquiry streams report =
    judged_of_results inquiry streams document count results report is comes own in
    inl (right, is_true inquiry streams report right)
run_report_of is_true inquiry streams document count results report is comes (inr (traces, joined, shared)) =
    inr (
      document,
      traces,
      record {
        read = is;
        results = comes.given_results;
        are_results = comes.are_results;
        joined = sym comes.same_session ∙ joined;
      },
      shared,
    )

pub inputs_run_report : JudgementIsTrue → (inquiry : Inquiry) (inputs : List Source) (document : Document) (count : ℕ)
    (results : List StreamResult) → IsDocument inquiry document
    → ((streams : List RawStream) × AllZip IsGivenAs inputs streams × ComesTo document.names streams count results)
    → (report : Report) → IsRunReportOfResults document count results report
    → IsRunReportOfInputs inquiry inputs report
inputs_run_report is_true inquiry inputs document count results is given report right = record {
  streams = given.0;
  are_given = given.1;
  is_report = run_report_of is_true inquiry given.0 document count results report is given.2 right;
}

-- a document that is refused has one report, whatever its streams are
pub refused_run_report : JudgementIsTrue → (inquiry : Inquiry) (inputs : List Source) (report : Report)
    → ((streams : List RawStream) → IsJudgement inquiry streams report) → IsRunReportOfInputs inquiry inputs report
refused_run_report is_true inquiry inputs report any = record {
  streams = all_left_unread inputs;
  are_given = all_unread_given inputs;
  is_report = inl (
    any (all_left_unread inputs),
    is_true inquiry (all_left_unread inputs) report (any (all_left_unread inputs)),
  );
}
