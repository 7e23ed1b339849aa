-- The text of a report is one that is owed, and what is written whole of such a text is the truth.
use Rattle.std.proofs.Common.{◌≡◌, ℕ, Bool, true, false, List, [], ◌∷◌, ◌++◌, refl}
use Rattle.std.specs.Prelude.{Option, if◌then◌else◌}
use Rattle.def_format.specs.Bundles.{whole_lines, is_separator, onto_part, parts_of_lines, parts_of}
use Rattle.def_format.specs.Documents.{Inquiry, plain}
use Rattle.def_format.specs.Reports.{Report, report_text}
use Rattle.def_judgement.specs.Judgements.{RawStream, IsJudgement, ended_streams}
use Rattle.def_judgement.specs.Headline.{is_judged}
use Rattle.def_judgement.specs.Writes.{Source, Writes, Whole, IsReportTextOf, IsTextOfBundle, IsTextOfStreams, WritesTruth, WritesTruthOfBundle}
use Rattle.def_judgement.proofs.TrueReports.{judgement_is_true_lem}

-- ---- what is owed

-- a right report's text is owed
pub report_text_of : (document : Inquiry) (streams : List RawStream) (report : Report)
    → IsJudgement document streams report → (IsSaid : Report → Type 0) → IsSaid report
    → IsReportTextOf document streams IsSaid (report_text report)
report_text_of document streams report right IsSaid said = record {
  report = report;
  right = right;
  truth = judgement_is_true_lem document streams report right;
  said = said;
  is_text = refl;
}

-- a text of which something is said is one of which what follows from that is said
pub weaker_said : (document : Inquiry) (streams : List RawStream) (P Q : Report → Type 0) (text : List ℕ)
    → ((report : Report) → P report → Q report) → IsReportTextOf document streams P text
    → IsReportTextOf document streams Q text
weaker_said document streams P Q text go h = record {
  report = h.report;
  right = h.right;
  truth = h.truth;
  said = go h.report h.said;
  is_text = h.is_text;
}

-- so is that of a bundle
pub weaker_said_of_bundle : (input : Source) (P Q : Report → Type 0) (text : List ℕ)
    → ((report : Report) → P report → Q report) → IsTextOfBundle input P text → IsTextOfBundle input Q text
weaker_said_of_bundle input P Q text go h = record {
  bundle = h.bundle;
  is_given = h.is_given;
  fits = h.fits;
  document = h.document;
  streams = h.streams;
  parts = h.parts;
  is_report_text = weaker_said (plain h.document) (ended_streams h.streams) P Q text go h.is_report_text;
}

-- and that of readers of streams
pub weaker_said_of_streams : (document : Inquiry) (inputs : List Source) (P Q : Report → Type 0) (text : List ℕ)
    → ((report : Report) → P report → Q report) → IsTextOfStreams document inputs P text
    → IsTextOfStreams document inputs Q text
weaker_said_of_streams document inputs P Q text go h = record {
  streams = h.streams;
  are_given = h.are_given;
  is_report_text = weaker_said document h.streams P Q text go h.is_report_text;
}

-- ---- what is true

-- a report's text that is written whole is the truth; that it is judged is told by what is said of it
pub truth_of_text : (document : Inquiry) (streams : List RawStream) (IsSaid : Report → Type 0) (IsTold : Type 0)
    (old new : Option (List ℕ)) → ((report : Report) → IsSaid report → is_judged report ≡ true → IsTold)
    → Writes (IsReportTextOf document streams IsSaid) Whole old new → WritesTruth document streams IsTold old new
truth_of_text document streams IsSaid IsTold old new tell written = λ read traces holds well. (
  tell written.1.report written.1.said (written.1.truth.judged read traces holds well),
  record {
    within_width = λ narrow. (
      written.0,
      record {
        report = written.1.report;
        truth = written.1.truth.headline read traces holds well narrow;
        is_text = written.1.is_text;
      },
      written.2,
    );
    beyond_width = λ asked. (
      written.0,
      record {
        report = written.1.report;
        truth = written.1.truth.headline_beyond_width asked read traces holds well;
        is_text = written.1.is_text;
      },
      written.2,
    );
  },
)

-- so is that of a bundle
pub truth_of_bundle_text : (input : Source) (IsSaid : Report → Type 0) (IsTold : Type 0)
    (old new : Option (List ℕ)) → ((report : Report) → IsSaid report → is_judged report ≡ true → IsTold)
    → Writes (IsTextOfBundle input IsSaid) Whole old new → WritesTruthOfBundle input IsTold old new
truth_of_bundle_text input IsSaid IsTold old new tell written = record {
  bundle = written.1.bundle;
  is_given = written.1.is_given;
  document = written.1.document;
  streams = written.1.streams;
  parts = written.1.parts;
  truth = truth_of_text (plain written.1.document) (ended_streams written.1.streams) IsSaid IsTold old new tell
      (written.0, written.1.is_report_text, written.2);
}

-- ---- the parts of a bundle

onto_some : (line : List ℕ) (parts : List (List ℕ))
    → (document : List ℕ) × (streams : List (List ℕ)) × (onto_part line parts ≡ document ∷ streams)
onto_some line [] = (line, [], refl)
onto_some line (first ∷ others) = (line ++ first, others, refl)

some_parts : (lines : List (List ℕ))
    → (document : List ℕ) × (streams : List (List ℕ)) × (parts_of_lines lines ≡ document ∷ streams)
some_parts [] = ([], [], refl)
some_parts (line ∷ others) = go (is_separator line)
  where
    go : (b : Bool)
        → (document : List ℕ) × (streams : List (List ℕ))
        × ((if b then [] ∷ parts_of_lines others else onto_part line (parts_of_lines others)) ≡ document ∷ streams)
    go true = ([], parts_of_lines others, refl)
    go false = onto_some line (parts_of_lines others)

-- a bundle has a first part, the document
pub parts_are_some : (bytes : List ℕ)
    → (document : List ℕ) × (streams : List (List ℕ)) × (parts_of bytes ≡ document ∷ streams)
parts_are_some bytes = some_parts (whole_lines bytes)
