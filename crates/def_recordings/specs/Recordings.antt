-- What is recorded of a run, of any length: its document and its streams are read as those of a session are, but there
-- may be 4,096 processes and 8,192 streams, a stream may have any number of bytes, and a process 2,147,483,647 events.
use Rattle.std.specs.Prelude.{◌≡◌, ℕ, suc, nat_lt, if◌then◌else◌, List, [], ◌∷◌, length, Ok, Option, Some, None}
use Rattle.std.specs.List.{AllZip}
use Rattle.def_model.specs.Order.{IsWellFormed}
use Rattle.def_model.specs.Predicates.{Recorded}
use Rattle.def_format.specs.Documents.{Document, DocumentFault, Inquiry, IsDocumentWithin, IsRefusedWithin}
use Rattle.def_format.specs.Limits.{line_byte_limit}
use Rattle.def_format.specs.Lines.{FrameFault, LineTooLong, all_lines, numbered_from}
use Rattle.def_format.specs.Names.{ProcessNames}
use Rattle.def_format.specs.Readings.{Ended, Reading, Trace, reading_of_lines, result_of, stop_at_end, with_end}
use Rattle.def_format.specs.RefusalWords.{document_refusal}
use Rattle.def_format.specs.Reports.{Refusal, Refused}
use Rattle.def_format.specs.Sessions.{StreamResult, session_within}
use Rattle.def_judgement.specs.Judgements.{IsReportOfSession, events_of_traces, recorded_of}

-- processes of a document
abbrev pub recorded_process_limit : ℕ
recorded_process_limit = 4096

-- streams
abbrev pub recorded_stream_limit : ℕ
recorded_stream_limit = 8192

-- events of a process
abbrev pub recorded_event_limit : ℕ
recorded_event_limit = 2147483647

-- ---- lines

-- the fault of the first of these lines that is too long, the first of which has this number
abbrev pub long_line : ℕ → List (List ℕ) → Option FrameFault
long_line n [] = None
long_line n (bytes ∷ others) =
    if nat_lt line_byte_limit (length bytes) then Some (LineTooLong n) else long_line (suc n) others

-- the lines before it
abbrev pub lines_before_long : List (List ℕ) → List (List ℕ)
lines_before_long [] = []
lines_before_long (bytes ∷ others) =
    if nat_lt line_byte_limit (length bytes) then [] else bytes ∷ lines_before_long others

-- ---- streams

-- the reading of all bytes of a stream
abbrev pub recorded_reading : List ProcessNames → List ℕ → Reading
recorded_reading names bytes =
    with_end (stop_at_end Ended bytes (long_line 1 (all_lines bytes)))
    (reading_of_lines recorded_event_limit names (numbered_from 1 (lines_before_long (all_lines bytes))))

-- what a stream comes to: a trace or a fault
abbrev pub IsRecordedResult : List ProcessNames → List ℕ → StreamResult → Type 0
IsRecordedResult names bytes result = result_of (recorded_reading names bytes) ≡ Some result

-- what each stream comes to, in the streams' order
abbrev pub AreRecordedResults : List ProcessNames → List (List ℕ) → List StreamResult → Type 0
AreRecordedResults names streams results = AllZip (IsRecordedResult names) streams results

-- ---- runs

-- The document of an inquiry and these streams make a run: the document is one, the streams come to a trace of each
-- process, and these are well formed.
pub record IsRun (inquiry : Inquiry) (streams : List (List ℕ)) (document : Document) (recorded : Recorded) : Type 0
  where
    pub is_document : IsDocumentWithin recorded_process_limit inquiry document
    pub results : List StreamResult
    pub are_results : AreRecordedResults document.names streams results
    pub traces : List Trace
    pub joined : session_within recorded_stream_limit document.names (length streams) results ≡ Ok traces
    pub formed : IsWellFormed document.version (events_of_traces traces)
    pub is_recorded : recorded ≡ recorded_of document traces

-- They make none, for this reason: what is wrong with the document, or else what the report of a session would say of
-- streams that come to this.
pub data IsRefusedRun (inquiry : Inquiry) (streams : List (List ℕ)) (refusal : Refusal) : Type 0 where
  of_document : (fault : DocumentFault) → IsRefusedWithin recorded_process_limit inquiry fault
      → refusal ≡ document_refusal fault
      → IsRefusedRun inquiry streams refusal
  of_streams : (document : Document) (results : List StreamResult)
      → IsDocumentWithin recorded_process_limit inquiry document → AreRecordedResults document.names streams results
      → IsReportOfSession document
      (session_within recorded_stream_limit document.names (length streams) results) (Refused refusal)
      → IsRefusedRun inquiry streams refusal
