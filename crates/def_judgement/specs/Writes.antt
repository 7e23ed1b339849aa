-- What a call leaves written of the one text that it owes: all of it, a part of it, or nothing; and which text that is.
use Rattle.std.specs.Prelude.{◌≡◌, ◌≢◌, ◌<◌, ◌≤◌, ◌↔◌, ⊤, ℕ, Bool, true, false, IsTrue, List, ◌∷◌, ◌++◌, length, take, Option, Some, IfSome}
use Rattle.std.specs.List.{AllZip}
use Rattle.std.specs.Io.KnownBytes.{Appends, Keeps}
use Rattle.def_model.specs.Order.{IsWellFormed}
use Rattle.def_format.specs.Documents.{Document, Inquiry, plain}
use Rattle.def_format.specs.Bundles.{parts_of}
use Rattle.def_format.specs.Limits.{bundle_byte_limit}
use Rattle.def_judgement.specs.Judgements.{RawStream, IsJudgement, ended_streams, events_of_traces}
use Rattle.def_format.specs.OtherTexts.{Finding, check_text}
use Rattle.def_format.specs.Readings.{Trace, Open, Ended, Failed}
use Rattle.def_format.specs.Reports.{Report, report_text}
use Rattle.def_judgement.specs.Findings.{IsFinding, IsClean}
use Rattle.def_judgement.specs.Headline.{HoldsSession, IsNarrow, IsTrueReport, Coverage, TellsTruth, each_decided, each_predicate, is_judged}

-- ---- what is left written

-- how far a call came with its text
pub data CallEnd : Type 0 where
  -- the whole text is written
  Whole : CallEnd
  -- the output failed before the whole text was written
  Partial : CallEnd
  -- the call ended before it wrote anything
  Silent : CallEnd

-- What a call leaves on its output that owes a text of which this holds, by how far it came. The bytes of the output
-- before the call and after it are known or not; if they aren't, nothing is said of them.
abbrev pub Writes : (IsOwed : List ℕ → Type 0) → CallEnd → (old new : Option (List ℕ)) → Type 0
Writes IsOwed Whole old new = (text : List ℕ) × IsOwed text × Appends old new text
Writes IsOwed Partial old new =
    (text : List ℕ) × IsOwed text × (count : ℕ) × (count < length text) × Appends old new (take count text)
Writes IsOwed Silent old new = Keeps old new

-- ---- what readers give

-- What is known of what a reader has left: its bytes, and whether a read of it fails once it has given them.
pub record Source : Type 0 where
  pub bytes : Option (List ℕ)
  pub fails : Option Bool

-- a reader that has these bytes left, and of which no read fails
abbrev pub whole_source : List ℕ → Source
whole_source bytes = record { bytes = Some bytes; fails = Some false }

-- of the reader it is known that it has these bytes left, and that no read of it fails
abbrev pub IsKnownAs : Source → List ℕ → Type 0
IsKnownAs source bytes = source ≡ whole_source bytes

-- A reader gave all bytes that it had left, to its end; or a prefix of them, and then a read failed, or the reading
-- stopped at the stream's end line or its fault.
pub record IsGivenBy (input : Option (List ℕ)) (given : RawStream) : Type 0 where
  pub stopped : given.ending ≢ Open
  pub prefix : IfSome input (λ bytes. (rest : List ℕ) × (bytes ≡ given.bytes ++ rest))
  pub whole : given.ending ≡ Ended → IfSome input (λ bytes. given.bytes ≡ bytes)

-- The same of a source. If it is known whether a read of it fails, what it gave ended so: with its end, or with a
-- failed read after all bytes that it had left, if these are known.
pub record IsGivenAs (source : Source) (given : RawStream) : Type 0 where
  pub given_by : IsGivenBy source.bytes given
  pub ends : source.fails ≡ Some false → given.ending ≡ Ended
  pub fails : source.fails ≡ Some true → given.ending ≡ Failed
  pub fails_after : source.fails ≡ Some true → IfSome source.bytes (λ bytes. given.bytes ≡ bytes)

-- A read failed of a source that had this left: it isn't known that none does, and if it is known that one does, this
-- holds of all bytes that were left, if these are known.
pub record FailsAfter (source : Source) (IsAll : List ℕ → Type 0) : Type 0 where
  pub may : source.fails ≢ Some false
  pub all : source.fails ≡ Some true → IfSome source.bytes IsAll

-- The bytes that a source gave to its end: all that it had left, if that is known. It isn't known that a read of it
-- fails.
pub record IsWholeInput (source : Source) (bytes : List ℕ) : Type 0 where
  pub all : IfSome source.bytes (λ left. bytes ≡ left)
  pub ends : source.fails ≢ Some true

-- ---- what is said of a report

-- it is no refusal
abbrev pub IsJudged : Report → Type 0
IsJudged report = is_judged report ≡ true

-- it is a refusal
abbrev pub IsRefused : Report → Type 0
IsRefused report = is_judged report ≡ false

-- nothing
abbrev pub IsAnyReport : Report → Type 0
IsAnyReport report = ⊤

-- ---- the texts

-- The text of the report of a document's bytes, with what is asked beside them, and of streams, which is true. Of the
-- report this is said.
pub record IsReportTextOf (document : Inquiry) (streams : List RawStream) (IsSaid : Report → Type 0)
    (text : List ℕ) : Type 0 where
  pub report : Report
  pub right : IsJudgement document streams report
  pub truth : IsTrueReport document streams report
  pub said : IsSaid report
  pub is_text : text ≡ report_text report

-- the same of sources of streams: of the streams that they gave
pub record IsTextOfStreams (document : Inquiry) (inputs : List Source) (IsSaid : Report → Type 0)
    (text : List ℕ) : Type 0 where
  pub streams : List RawStream
  pub are_given : AllZip IsGivenAs inputs streams
  pub is_report_text : IsReportTextOf document streams IsSaid text

-- the same of a source of a bundle: of the parts of the bundle that it gave, which isn't too long
pub record IsTextOfBundle (input : Source) (IsSaid : Report → Type 0) (text : List ℕ) : Type 0 where
  pub bundle : List ℕ
  pub is_given : IsWholeInput input bundle
  pub fits : length bundle ≤ bundle_byte_limit
  pub document : List ℕ
  pub streams : List (List ℕ)
  pub parts : parts_of bundle ≡ document ∷ streams
  pub is_report_text : IsReportTextOf (plain document) (ended_streams streams) IsSaid text

-- the bundle that a source has is too long
abbrev pub IsTooLong : Source → Type 0
IsTooLong input = IfSome input.bytes (λ bundle. bundle_byte_limit < length bundle)

-- a read failed of a source of a bundle, which isn't too long if one is known to fail
abbrev pub IsBrokenOff : Source → Type 0
IsBrokenOff input = FailsAfter input (λ bundle. length bundle ≤ bundle_byte_limit)

-- The text of what a check finds by a document with what is asked, a report's bytes and the streams that these sources
-- gave. It has nothing bad in it exactly if that is said, if anything is said of it.
pub record IsFindingTextOf (document : Inquiry) (report : List ℕ) (inputs : List Source) (good : Option Bool)
    (text : List ℕ) : Type 0 where
  pub streams : List RawStream
  pub are_given : AllZip IsGivenAs inputs streams
  pub finding : Finding
  pub right : IsFinding document report streams finding
  pub clean : IfSome good (λ good. IsTrue good ↔ IsClean finding)
  pub is_text : text ≡ check_text finding

-- ---- the truth

-- the text of a report that says the truth about each predicate of these traces that is covered
pub record IsTrueText (coverage : Coverage) (document : Document) (traces : List Trace) (text : List ℕ) : Type 0 where
  pub report : Report
  pub truth : TellsTruth coverage document traces report
  pub is_text : text ≡ report_text report

-- What is written of traces that make a well-formed computation: with no level over the width, the text of a report
-- that says the truth about each predicate; and however wide it is, if that is asked for, that of one that says the
-- truth about each that is decided.
pub record WritesTrueTexts (inquiry : Inquiry) (document : Document) (traces : List Trace)
    (old new : Option (List ℕ)) : Type 0 where
  pub within_width : IsNarrow (events_of_traces traces) document.width
      → Writes (IsTrueText each_predicate document traces) Whole old new
  pub beyond_width : inquiry.options.beyond_width ≡ true
      → Writes (IsTrueText (each_decided document.width) document traces) Whole old new

-- If a document and streams hold a well-formed session, it is judged, and what is written is true.
abbrev pub WritesTruth : (inquiry : Inquiry) (streams : List RawStream) (IsJudged : Type 0)
    → (old new : Option (List ℕ)) → Type 0
WritesTruth inquiry streams IsJudged old new =
    (document : Document) (traces : List Trace) → HoldsSession inquiry streams document traces
    → IsWellFormed document.version (events_of_traces traces)
    → IsJudged × WritesTrueTexts inquiry document traces old new

-- the same of the parts of the bundle that a source gave
pub record WritesTruthOfBundle (input : Source) (IsJudged : Type 0) (old new : Option (List ℕ)) : Type 0 where
  pub bundle : List ℕ
  pub is_given : IsWholeInput input bundle
  pub document : List ℕ
  pub streams : List (List ℕ)
  pub parts : parts_of bundle ≡ document ∷ streams
  pub truth : WritesTruth (plain document) (ended_streams streams) IsJudged old new
