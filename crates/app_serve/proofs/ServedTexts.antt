-- What a server writes of a session, by what is said of its report and by the document's bytes.
use Rattle.std.proofs.Common.{ℕ, List, [], inl, inr}
use Rattle.def_format.specs.Documents.{Inquiry, Options, inquiry_of}
use Rattle.def_format.specs.Reports.{Report}
use Rattle.def_judgement.specs.Writes.{Source}
use Rattle.def_judgement.proofs.TextsOwed.{weaker_said_of_streams}
use Rattle.pd_engine.specs.SessionReports.{IsTrueReportOfInputs}
use Rattle.judge_explore.specs.Explored.{IsOwed, IsPageOfInputs, IsRefusalPage, Object, report_with}
use Rattle.judge_explore.proofs.Written.{owed_weaker}
use Rattle.app_arguments.specs.Formats.{Format, Plain, Json}
use Rattle.app_host.specs.FileSources.{SameOutline}
use Rattle.app_host.proofs.DocumentPrefixes.{same_holding, same_judgement, same_report_text, same_truth}
use Rattle.app_serve.specs.Served.{IsServed}

-- what is said of the report, or what follows from that
pub weaker_said_in : (format : Format) (inquiry : Inquiry) (inputs : List Source) (P Q : Report → Type 0)
    (text : List ℕ) → ((report : Report) → P report → Q report) → IsServed format inquiry inputs P text
    → IsServed format inquiry inputs Q text
weaker_said_in Plain inquiry inputs = weaker_said_of_streams inquiry inputs
weaker_said_in Json inquiry inputs = owed_weaker inquiry Object [] inputs

-- ---- the report

in_owed : (inquiry : Inquiry) (inputs : List Source) (P : Report → Type 0) (text : List ℕ)
    → IsOwed inquiry Object [] inputs P text
    → (report : Report) × P report × IsTrueReportOfInputs inquiry inputs report
in_owed inquiry inputs P text (inl page) = (
  report_with page.is_page.document page.is_page.traces page.is_page.messages page.is_page.outcome,
  page.is_page.said,
  record {
    streams = page.streams;
    are_given = page.are_given;
    right = page.is_page.right;
    truth = page.is_page.truth;
  },
)
in_owed inquiry inputs P text (inr refusal) = (refusal.report, refusal.said, refusal.given)

-- the report that is written, of which this is said
pub found_in : (format : Format) (inquiry : Inquiry) (inputs : List Source) (P : Report → Type 0) (text : List ℕ)
    → IsServed format inquiry inputs P text
    → (report : Report) × P report × IsTrueReportOfInputs inquiry inputs report
found_in Plain inquiry inputs P text is = (
  is.is_report_text.report,
  is.is_report_text.said,
  record {
    streams = is.streams;
    are_given = is.are_given;
    right = is.is_report_text.right;
    truth = is.is_report_text.truth;
  },
)
found_in Json inquiry inputs P text is = in_owed inquiry inputs P text is

-- ---- documents that are alike

module _ (options : Options) (a b : List ℕ) (inputs : List Source) (IsSaid : Report → Type 0) (text : List ℕ)
    (same : SameOutline options a b) where
  same_page : IsPageOfInputs (inquiry_of options a) Object [] inputs IsSaid text
      → IsPageOfInputs (inquiry_of options b) Object [] inputs IsSaid text
  same_page h = record {
    streams = h.streams;
    are_given = h.are_given;
    is_page = record {
      document = h.is_page.document;
      traces = h.is_page.traces;
      held = same_holding options a b h.streams h.is_page.document h.is_page.traces same h.is_page.held;
      pairs = h.is_page.pairs;
      are_messages = h.is_page.are_messages;
      messages = h.is_page.messages;
      outcome = h.is_page.outcome;
      right = same_judgement options a b h.streams _ same h.is_page.right;
      truth = same_truth options a b h.streams _ same h.is_page.truth;
      said = h.is_page.said;
      is_text = h.is_page.is_text;
    };
  }

  same_refused : IsRefusalPage (inquiry_of options a) Object inputs IsSaid text
      → IsRefusalPage (inquiry_of options b) Object inputs IsSaid text
  same_refused h = record {
    report = h.report;
    given = record {
      streams = h.given.streams;
      are_given = h.given.are_given;
      right = same_judgement options a b h.given.streams h.report same h.given.right;
      truth = same_truth options a b h.given.streams h.report same h.given.truth;
    };
    other = h.other;
    said = h.said;
    explanation = h.explanation;
    is_text = h.is_text;
  }

  same_owed : IsOwed (inquiry_of options a) Object [] inputs IsSaid text
      → IsOwed (inquiry_of options b) Object [] inputs IsSaid text
  same_owed (inl page) = inl (same_page page)
  same_owed (inr refusal) = inr (same_refused refusal)

-- what is written of the one is what is written of the other
pub same_text_in : (format : Format) (options : Options) (a b : List ℕ) (inputs : List Source)
    (IsSaid : Report → Type 0) (text : List ℕ) → SameOutline options a b
    → IsServed format (inquiry_of options a) inputs IsSaid text
    → IsServed format (inquiry_of options b) inputs IsSaid text
same_text_in Plain options a b inputs IsSaid text same is = same_report_text options a b inputs IsSaid text same is
same_text_in Json options a b inputs IsSaid text same is = same_owed options a b inputs IsSaid text same is
