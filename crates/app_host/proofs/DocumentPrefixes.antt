-- Documents with one outline have one report; so have two that are too long.
use Rattle.std.proofs.Common.{◌≡◌, ℕ, ◌<◌, List, length, refl, sym, ◌∙◌, Err, lt-ltb}
use Rattle.std.specs.Prelude.{Option, Bool}
use Rattle.def_format.specs.Documents.{Document, DocumentFault, Long, Json, Shape, Processes, Name, NameTwice, Vars, Predicates, Width, OtherVersion, InPredicate, Options, IsDocument, IsDocumentWithin, IsRefusedDocument, IsRefusedWithin, inquiry_of, outline_within}
use Rattle.def_format.specs.Limits.{document_byte_limit, process_limit}
use Rattle.def_judgement.specs.Judgements.{IsJudgement, of_refused, of_read, RawStream}
use Rattle.def_format.specs.Readings.{Trace}
use Rattle.def_format.specs.OtherTexts.{Finding}
use Rattle.def_format.specs.Reports.{Report}
use Rattle.def_judgement.specs.Findings.{IsFinding, IsSessionOf, of_unread, of_refused_session, of_refusal, of_session}
use Rattle.def_judgement.specs.Headline.{HoldsSession, IsTrueReport}
use Rattle.def_judgement.specs.Writes.{IsTextOfStreams, Source}
use Rattle.app_arguments.specs.Formats.{Format}
use Rattle.app_host.specs.Formats.{IsFindingIn}
use Rattle.app_host.specs.FileSources.{SameOutline}

-- ---- bytes with one outline

pub document_within : (limit : ℕ) (options : Options) (a b : List ℕ) (document : Document) → SameOutline options a b
    → IsDocumentWithin limit (inquiry_of options a) document → IsDocumentWithin limit (inquiry_of options b) document
document_within limit options a b document e h = record {
  outline = h.outline;
  sound = sym (e limit) ∙ h.sound;
  names = h.names;
  initial = h.initial;
  width = h.width;
  version = h.version;
  beyond_width = h.beyond_width;
  predicates = h.predicates;
}

pub same_document : (options : Options) (a b : List ℕ) (document : Document) → SameOutline options a b
    → IsDocument (inquiry_of options a) document → IsDocument (inquiry_of options b) document
same_document = document_within process_limit

pub refusal_within : (limit : ℕ) (options : Options) (a b : List ℕ) (fault : DocumentFault) → SameOutline options a b
    → IsRefusedWithin limit (inquiry_of options a) fault → IsRefusedWithin limit (inquiry_of options b) fault
refusal_within limit options a b Long e h = sym (e limit) ∙ h
refusal_within limit options a b Json e h = sym (e limit) ∙ h
refusal_within limit options a b Shape e h = sym (e limit) ∙ h
refusal_within limit options a b Processes e h = sym (e limit) ∙ h
refusal_within limit options a b Name e h = sym (e limit) ∙ h
refusal_within limit options a b NameTwice e h = sym (e limit) ∙ h
refusal_within limit options a b Vars e h = sym (e limit) ∙ h
refusal_within limit options a b Predicates e h = sym (e limit) ∙ h
refusal_within limit options a b Width e h = sym (e limit) ∙ h
refusal_within limit options a b OtherVersion e h =
    record { outline = h.outline; sound = sym (e limit) ∙ h.sound; spelled = h.spelled; none = h.none }
refusal_within limit options a b (InPredicate number inner at) e h = record {
  outline = h.outline;
  sound = sym (e limit) ∙ h.sound;
  before = h.before;
  refused = h.refused;
  after = h.after;
  parts = h.parts;
  place = h.place;
  stands = h.stands;
  none_before = h.none_before;
}

pub same_refusal : (options : Options) (a b : List ℕ) (fault : DocumentFault) → SameOutline options a b
    → IsRefusedDocument (inquiry_of options a) fault → IsRefusedDocument (inquiry_of options b) fault
same_refusal = refusal_within process_limit

pub same_judgement : (options : Options) (a b : List ℕ) (streams : List RawStream) (report : Report)
    → SameOutline options a b
    → IsJudgement (inquiry_of options a) streams report → IsJudgement (inquiry_of options b) streams report
same_judgement options a b streams report e (of_refused fault refused reported) =
    of_refused fault (same_refusal options a b fault e refused) reported
same_judgement options a b streams report e (of_read document results read are reported) =
    of_read document results (same_document options a b document e read) are reported

pub same_session : (options : Options) (a b : List ℕ) (streams : List RawStream) (document : Document)
    (traces : List Trace) (messages : ℕ) → SameOutline options a b
    → IsSessionOf (inquiry_of options a) streams document traces messages
    → IsSessionOf (inquiry_of options b) streams document traces messages
same_session options a b streams document traces messages e held = record {
  read = same_document options a b document e held.read;
  results = held.results;
  are_results = held.are_results;
  joined = held.joined;
  formed = held.formed;
  counted = held.counted;
}

pub same_holding : (options : Options) (a b : List ℕ) (streams : List RawStream) (document : Document)
    (traces : List Trace)
    → SameOutline options a b → HoldsSession (inquiry_of options a) streams document traces
    → HoldsSession (inquiry_of options b) streams document traces
same_holding options a b streams document traces e held = record {
  read = same_document options a b document e held.read;
  results = held.results;
  are_results = held.are_results;
  joined = held.joined;
}

pub same_truth : (options : Options) (a b : List ℕ) (streams : List RawStream) (report : Report)
    → SameOutline options a b
    → IsTrueReport (inquiry_of options a) streams report → IsTrueReport (inquiry_of options b) streams report
same_truth options a b streams report e truth = record {
  agrees = truth.agrees;
  judged = λ document traces holds.
      truth.judged document traces (same_holding options b a streams document traces (λ limit. sym (e limit)) holds);
  headline = λ document traces holds.
      truth.headline document traces (same_holding options b a streams document traces (λ limit. sym (e limit)) holds);
  headline_beyond_width = λ asked document traces holds.
      truth.headline_beyond_width asked document traces
      (same_holding options b a streams document traces (λ limit. sym (e limit)) holds);
}

pub same_finding : (options : Options) (a b report : List ℕ) (streams : List RawStream) (finding : Finding)
    → SameOutline options a b → IsFinding (inquiry_of options a) report streams finding
    → IsFinding (inquiry_of options b) report streams finding
same_finding options a b report streams finding e (of_unread line unread) = of_unread line unread
same_finding options a b report streams finding e (of_refused_session claimed refusal good read judged right) =
    of_refused_session claimed refusal good read (same_judgement options a b streams _ e judged) right
same_finding options a b report streams finding e (of_refusal refusal document traces messages read held) =
    of_refusal refusal document traces messages read
    (same_session options a b streams document traces messages e held)
same_finding options a b report streams finding e (of_session processes events matched answers document traces messages
    good found read held counted answered) =
    of_session processes events matched answers document traces messages good found read
    (same_session options a b streams document traces messages e held) counted answered

-- what is found by the one is what is found by the other
pub same_text : (format : Format) (options : Options) (a b report : List ℕ) (inputs : List Source) (good : Option Bool)
    (text : List ℕ) → SameOutline options a b → IsFindingIn format (inquiry_of options a) report inputs good text
    → IsFindingIn format (inquiry_of options b) report inputs good text
same_text format options a b report inputs good text e h = record {
  streams = h.streams;
  are_given = h.are_given;
  finding = h.finding;
  right = same_finding options a b report h.streams h.finding e h.right;
  clean = h.clean;
  is_text = h.is_text;
}

-- the report of the one is that of the other
pub same_report_text : (options : Options) (a b : List ℕ) (inputs : List Source) (IsSaid : Report → Type 0)
    (text : List ℕ) → SameOutline options a b → IsTextOfStreams (inquiry_of options a) inputs IsSaid text
    → IsTextOfStreams (inquiry_of options b) inputs IsSaid text
same_report_text options a b inputs IsSaid text e h = record {
  streams = h.streams;
  are_given = h.are_given;
  is_report_text = record {
    report = h.is_report_text.report;
    right = same_judgement options a b h.streams h.is_report_text.report e h.is_report_text.right;
    truth = same_truth options a b h.streams h.is_report_text.report e h.is_report_text.truth;
    said = h.is_report_text.said;
    is_text = h.is_report_text.is_text;
  };
}

-- ---- documents that are too long

long_outline : (limit : ℕ) (options : Options) (bytes : List ℕ) → document_byte_limit < length bytes
    → outline_within limit (inquiry_of options bytes) ≡ Err Long
unfolding outline_within
long_outline limit options bytes long = rw (lt-ltb document_byte_limit (length bytes) long) refl

pub both_long : (options : Options) (a b : List ℕ) → document_byte_limit < length a → document_byte_limit < length b
    → SameOutline options a b
both_long options a b long other limit = long_outline limit options a long ∙ sym (long_outline limit options b other)
