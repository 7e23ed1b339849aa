-- How a run of the program ends: its exit status, and what that says of what it leaves on its output and on its errors.
use Rattle.std.specs.Prelude.{◌≡◌, ◌≢◌, ◌<◌, ◌≤◌, ◌⊎◌, ⊤, ℕ, true, false, Bool, All, List, [], ◌∷◌, codes, length, map, Option, Some, None, IfSome}
use Rattle.std.specs.Io.KnownBytes.{Keeps}
use Rattle.def_format.specs.Documents.{Document, DocumentFault, IsDocument, IsRefusedDocument, Inquiry, Options, inquiry_of}
use Rattle.def_format.specs.Limits.{document_byte_limit, report_byte_limit}
use Rattle.def_format.specs.Reports.{Report}
use Rattle.app_arguments.specs.Conditions as conditions
use Rattle.app_arguments.specs.Conditions.{Conclusion, conclusion, unknown_name}
use Rattle.app_arguments.specs.Formats.{Format}
use Rattle.app_arguments.specs.Places.{Place}
use Rattle.judge_runs.specs.Wishes.{Condition, names_of}
use Rattle.out_picture.specs.Scopes.{Scope}
use Rattle.def_judgement.specs.Writes.{Source, Writes, Whole, Partial, IsAnyReport, IsBrokenOff, IsJudged, IsRefused, IsWholeInput, IsTextOfBundle, IsTextOfStreams, IsTooLong}

-- ---- what a run is asked for

-- what is asked of a page: what is wished of predicates, the names of the files of notes on events, and the pattern of
-- a link to where an event stands in a source
pub record PageOptions : Type 0 where
  pub wishes : List Condition
  pub notes : List (List ℕ)
  pub link : Option (List ℕ)

pub data Request : Type 0 where
  -- to judge the bundle on the input
  JudgeInput : Request
  -- to judge a session document, with what is asked beside it, and streams of events, each in a file of this name; and
  -- to fail on these answers; and to write the report in this format
  JudgeFiles : (options : Options) (fail_on : List Condition) (format : Format) (document : List ℕ)
      (streams : List (List ℕ)) → Request
  -- to check a report by a session document, with what is asked beside it, and streams of events, each in a file of
  -- this name, and to write what is found in this format
  CheckFiles : (options : Options) (format : Format) (document report : List ℕ) (streams : List (List ℕ)) → Request
  -- to draw a session document, with what is asked beside it, and streams of events, each in a file of this name, with
  -- the report that may be named before them: as much of it as this
  DrawFiles : (options : Options) (scope : Scope) (document : List ℕ) (files : List (List ℕ)) → Request
  -- to judge a session document, in the file of this name, and streams of events that come by connections to this
  -- place, in the same way; to name its port in a file, if that is asked for; to show meanwhile how far they are read
  -- to this many watchers; to wait no longer than this many seconds for the connections, and to keep the session in the
  -- folder of this name, if that is asked for
  ServeStreams : (options : Options) (fail_on : List Condition) (format : Format) (document : List ℕ) (place : Place)
      (port_file : Option (List ℕ)) (watchers : ℕ) (wait : Option ℕ) (keep : Option (List ℕ)) → Request
  -- to write a page of a session document, with what is asked beside it, and streams of events, each in a file of this
  -- name
  ExploreFiles : (options : Options) (fail_on : List Condition) (page : PageOptions) (document : List ℕ)
      (streams : List (List ℕ)) → Request
  -- to judge recorded runs, each in the folder of this name, with what is asked beside their documents, to fail on
  -- those that aren't as wished, and to write what came of them in this format
  TestRuns : (options : Options) (wishes : List Condition) (format : Format) (runs : List (List ℕ)) → Request
  -- to write the first session document of streams of events, each in a file of this name
  InferDocument : (streams : List (List ℕ)) → Request
  -- to write a session that has the answers of the run which a session document, with what is asked beside it, and
  -- streams of events make, each in a file of this name, into the folder of this name
  ReduceRun : (options : Options) (document : List ℕ) (streams : List (List ℕ)) (folder : List ℕ) → Request
  -- to judge the sessions in the lines of the input, or in its bundles, with what is asked beside their documents, and
  -- to fail on these answers
  JudgeLines : (options : Options) (fail_on : List Condition) (in_bundles : Bool) → Request
  -- to write the sessions in the folders of these names, each as a line
  BundleRuns : (runs : List (List ℕ)) → Request
  -- to write the summary of the answers and the summaries in the lines of the input
  MergeLines : Request
  -- to show the help
  ShowHelp : Request
  -- to say which version of the program this is
  ShowVersion : Request
  -- the arguments ask for nothing that can be done
  Unclear : Request

-- ---- files

-- What is known of a file: what its reader has left once it is open, and whether it can surely be opened.
pub record File : Type 0 where
  pub source : Source
  pub opens : Bool

abbrev pub sources_of : List File → List Source
sources_of files = map (λ (file : File). file.source) files

-- Some of these files may be such that it can't be opened, or a read of one of those may fail.
abbrev pub MayBeUnread : (opened read : List File) → Type 0
MayBeUnread opened read =
    All (λ (file : File). file.opens ≡ true) opened → All (λ (file : File). file.source.fails ≡ Some false) read → ⊥

-- the report of this source is too long, if its bytes are known
abbrev pub IsLongReport : Source → Type 0
IsLongReport report = IfSome report.bytes (λ bytes. report_byte_limit < length bytes)

-- The bytes are those of a document that is read from this source: all that it had left, if that is known, to its end,
-- unless they are more than a document may have.
pub record IsWholeDocument (source : Source) (bytes : List ℕ) : Type 0 where
  pub all : IfSome source.bytes (λ known. bytes ≡ known)
  pub ended : source.fails ≡ Some true → document_byte_limit < length bytes

-- ---- how a run ends

-- why a run does not do what it is asked for, though the arguments are clear
pub data Failure : Type 0 where
  -- memory runs out
  MemoryFailure : Failure
  -- the input or a file can't be read, or a report is too long
  ReadFailure : Failure
  -- the output can't be written, or not be flushed; or a session that is to be kept can't be, or a port not be named in
  -- its file, or the page of a run or the results of all not be written into theirs
  WriteFailure : Failure
  -- the bundle is too long
  BundleFailure : Failure
  -- a place can't be bound, or a connection that is a stream can't be accepted, or not in time
  NetworkFailure : Failure

pub data Ending : Type 0 where
  -- the session is judged and has no answer to fail on, nothing that the check found is bad, or the help is written
  Success : Ending
  -- the session is refused, or something that the check found is bad
  Negative : Ending
  -- the session is judged, and has an answer to fail on
  Alarm : Ending
  -- the document has no predicate of a name that the arguments give
  NoPredicate : Ending
  -- the arguments are refused
  Misuse : Ending
  Failed : Failure → Ending

abbrev pub status_of_failure : Failure → ℕ
status_of_failure MemoryFailure = 4
status_of_failure _ = 3

-- the exit status
abbrev pub status_of : Ending → ℕ
status_of Success = 0
status_of Negative = 1
status_of Alarm = 5
status_of NoPredicate = 2
status_of Misuse = 2
status_of (Failed failure) = status_of_failure failure

-- ---- what stands on the errors

-- the line that reports a failure
abbrev pub line_of_failure : Failure → List ℕ
line_of_failure MemoryFailure = codes "monitor: memory\n"
line_of_failure ReadFailure = codes "monitor: read\n"
line_of_failure WriteFailure = codes "monitor: write\n"
line_of_failure BundleFailure = codes "monitor: bundle too long\n"
line_of_failure NetworkFailure = codes "monitor: network\n"

-- the text that is owed is written, or a prefix of it
abbrev pub WritesUpTo : (IsOwed : List ℕ → Type 0) → (old new : Option (List ℕ)) → Type 0
WritesUpTo IsOwed old new = Writes IsOwed Whole old new ⊎ Writes IsOwed Partial old new

abbrev pub IsLineOf : Failure → List ℕ → Type 0
IsLineOf failure text = text ≡ line_of_failure failure

-- the line that reports that there is no predicate of a name that the arguments give
abbrev pub IsNoPredicateLine : List ℕ → Type 0
IsNoPredicateLine text = text ≡ codes "monitor: no predicate of this name\n"

-- Nothing is reported of what succeeds, is found bad or is to fail; of a predicate that isn't there and of a failure
-- its line, or a prefix of it if the errors take no more. What is reported of refused arguments is the parser's.
abbrev pub Reports : Ending → (old new : Option (List ℕ)) → Type 0
Reports NoPredicate old new = WritesUpTo IsNoPredicateLine old new
Reports Misuse old new = ⊤
Reports (Failed failure) old new = WritesUpTo (IsLineOf failure) old new
Reports _ old new = Keeps old new

-- ---- what stands on the output

-- A session is judged or refused: the text of its report. The output fails: that text or a prefix of it. Any other end:
-- nothing; and that the input can't be read is said only if a read of it may fail.
abbrev pub JudgementLeaves : (input : Source) → Ending → (old new : Option (List ℕ)) → Type 0
JudgementLeaves input Success old new = Writes (IsTextOfBundle input IsJudged) Whole old new
JudgementLeaves input Negative old new = Writes (IsTextOfBundle input IsRefused) Whole old new
JudgementLeaves input (Failed MemoryFailure) old new = Keeps old new
JudgementLeaves input (Failed ReadFailure) old new = IsBrokenOff input × Keeps old new
JudgementLeaves input (Failed WriteFailure) old new = WritesUpTo (IsTextOfBundle input IsAnyReport) old new
JudgementLeaves input (Failed BundleFailure) old new = IsTooLong input × Keeps old new
JudgementLeaves input _ old new = ⊥

-- P holds of the document in this file, with what is asked.
pub record OfDocument (options : Options) (document : File) (P : Inquiry → Type 0) : Type 0 where
  pub bytes : List ℕ
  pub whole : IsWholeDocument document.source bytes
  pub holds : P (inquiry_of options bytes)

-- What is left of a run whose document stands in this file: nothing if memory runs out, nothing if a file can't be
-- opened or read, which is so only if that may be, and else what P says of the document with what is asked.
abbrev pub LeavesOf : (options : Options) (document : File) (IsUnread : Type 0)
    (P : Inquiry → Ending → (old new : Option (List ℕ)) → Type 0) → Ending → (old new : Option (List ℕ)) → Type 0
LeavesOf options document IsUnread P (Failed MemoryFailure) old new = Keeps old new
LeavesOf options document IsUnread P (Failed ReadFailure) old new = IsUnread × Keeps old new
LeavesOf options document IsUnread P ending old new =
    OfDocument options document (λ inquiry. P inquiry ending old new)

-- a report comes to this, under these conditions
abbrev pub ComesTo : (fail_on : List Condition) → Conclusion → Report → Type 0
ComesTo fail_on end report = conclusion fail_on report ≡ end

-- What is left of the texts of a report, of which IsText holds by what is said of the report. A session that is judged
-- has an answer to fail on, or none; or it is refused: the text of its report. The output fails: that text or a prefix
-- of it.
abbrev pub OfReport : (IsText : (Report → Type 0) → List ℕ → Type 0) (fail_on : List Condition) → Ending
    → (old new : Option (List ℕ)) → Type 0
OfReport IsText fail_on Success old new = Writes (IsText (ComesTo fail_on conditions.Unmet)) Whole old new
OfReport IsText fail_on Negative old new = Writes (IsText IsRefused) Whole old new
OfReport IsText fail_on Alarm old new = Writes (IsText (ComesTo fail_on conditions.Met)) Whole old new
OfReport IsText fail_on (Failed WriteFailure) old new = WritesUpTo (IsText IsAnyReport) old new
OfReport IsText fail_on _ old new = ⊥

-- the document, if the inquiry is of one, has each predicate that these conditions name
abbrev pub HasNamed : (fail_on : List Condition) → Inquiry → Type 0
HasNamed fail_on inquiry =
    (document : Document) → IsDocument inquiry document → unknown_name (names_of document.predicates) fail_on ≡ None

-- the inquiry is of a document, which doesn't have each of them
abbrev pub LacksNamed : (fail_on : List Condition) → Inquiry → Type 0
LacksNamed fail_on inquiry = (document : Document) × IsDocument inquiry document
    × (unknown_name (names_of document.predicates) fail_on ≢ None)

-- First the predicates that these conditions name are looked up in the document. One isn't there: nothing is left. All
-- are there, or the document is refused: what P says.
abbrev pub OfNamed : (fail_on : List Condition) (P : Inquiry → Ending → (old new : Option (List ℕ)) → Type 0)
    → Inquiry → Ending → (old new : Option (List ℕ)) → Type 0
OfNamed fail_on P inquiry NoPredicate old new = LacksNamed fail_on inquiry × Keeps old new
OfNamed fail_on P inquiry ending old new = HasNamed fail_on inquiry × P inquiry ending old new

-- of a document and of streams that these sources give
abbrev pub OfStreams : (streams : List Source) (fail_on : List Condition) → Inquiry → Ending
    → (old new : Option (List ℕ)) → Type 0
OfStreams streams fail_on inquiry ending old new = OfReport (IsTextOfStreams inquiry streams) fail_on ending old new

-- The text of the report of a document and of the streams that accepted connections gave, where a connection may be a
-- source of which G holds, and IsText says what text that is. There are as many connections as the document has
-- processes, and none if it is refused.
pub record IsTextOfAccepted
    (IsText : Inquiry → (inputs : List Source) (IsSaid : Report → Type 0) (text : List ℕ) → Type 0)
    (document : Inquiry) (G : Source → Type 0) (IsSaid : Report → Type 0) (text : List ℕ) : Type 0 where
  pub inputs : List Source
  pub accepted : All G inputs
  pub one_each : (read : Document) → IsDocument document read → length inputs ≡ length read.names
  pub none_refused : (fault : DocumentFault) → IsRefusedDocument document fault → inputs ≡ []
  pub is_text : IsText document inputs IsSaid text

-- Not all places may be bound and connections accepted: the network may fail, or they are waited for no longer than
-- some seconds.
abbrev pub ServiceMayFail : (wait : Option ℕ) (network_serves : Bool) → Type 0
ServiceMayFail wait network_serves = wait ≡ None → network_serves ≡ true → ⊥

-- the inquiry is of a document, and isn't refused
abbrev pub HoldsDocument : Inquiry → Type 0
HoldsDocument inquiry = (document : Document) × IsDocument inquiry document

-- The same of streams that come by connections. If a place can't be bound, or a stream not be accepted, or not in time:
-- nothing; and that comes only of a document that isn't refused. If something is to be written to other files, as where
-- the session is kept, and can't be: nothing, in the same way, or all of the report.
abbrev pub OfConnections :
    (IsText : Inquiry → (inputs : List Source) (IsSaid : Report → Type 0) (text : List ℕ) → Type 0)
    (G : Source → Type 0) (MayNotServe WritesFiles : Type 0) (fail_on : List Condition) → Inquiry → Ending
    → (old new : Option (List ℕ)) → Type 0
OfConnections IsText G MayNotServe WritesFiles fail_on inquiry (Failed NetworkFailure) old new =
    MayNotServe × HoldsDocument inquiry × Keeps old new
OfConnections IsText G MayNotServe WritesFiles fail_on inquiry (Failed WriteFailure) old new =
    WritesUpTo (IsTextOfAccepted IsText inquiry G IsAnyReport) old new
    ⊎ (WritesFiles × HoldsDocument inquiry × Keeps old new)
OfConnections IsText G MayNotServe WritesFiles fail_on inquiry ending old new =
    OfReport (IsTextOfAccepted IsText inquiry G) fail_on ending old new

-- P holds of the bytes of a report, which are all that its source had left, and not too many.
pub record OfClaim (report : Source) (P : List ℕ → Type 0) : Type 0 where
  pub bytes : List ℕ
  pub whole : IsWholeInput report bytes
  pub fits : length bytes ≤ report_byte_limit
  pub holds : P bytes

-- A check of a report of this source finds nothing bad, or something: the text of what it finds, which IsText says. The
-- output fails: that text or a prefix of it.
abbrev pub OfFinding :
    (IsText : Inquiry → (report : List ℕ) (inputs : List Source) (good : Option Bool) (text : List ℕ) → Type 0)
    (report : Source) (streams : List Source) → Inquiry → Ending → (old new : Option (List ℕ)) → Type 0
OfFinding IsText report streams inquiry Success old new =
    OfClaim report (λ r. Writes (IsText inquiry r streams (Some true)) Whole old new)
OfFinding IsText report streams inquiry Negative old new =
    OfClaim report (λ r. Writes (IsText inquiry r streams (Some false)) Whole old new)
OfFinding IsText report streams inquiry (Failed WriteFailure) old new =
    OfClaim report (λ r. WritesUpTo (IsText inquiry r streams None) old new)
OfFinding IsText report streams inquiry _ old new = ⊥

-- The help is the parser's text: it is shown, or the output fails.
abbrev pub HelpLeaves : Ending → (old new : Option (List ℕ)) → Type 0
HelpLeaves Success old new = ⊤
HelpLeaves (Failed MemoryFailure) old new = Keeps old new
HelpLeaves (Failed WriteFailure) old new = ⊤
HelpLeaves _ old new = ⊥

-- the line that names the program and its version
abbrev pub IsVersionLine : List ℕ → Type 0
IsVersionLine text = text ≡ codes "monitor 1.0.0\n"

-- That line is written, or the output fails: that line or a prefix of it.
abbrev pub VersionLeaves : Ending → (old new : Option (List ℕ)) → Type 0
VersionLeaves Success old new = Writes IsVersionLine Whole old new
VersionLeaves (Failed MemoryFailure) old new = Keeps old new
VersionLeaves (Failed WriteFailure) old new = WritesUpTo IsVersionLine old new
VersionLeaves _ old new = ⊥

-- Arguments that ask for nothing are refused, and nothing is written.
abbrev pub MisuseLeaves : Ending → (old new : Option (List ℕ)) → Type 0
MisuseLeaves Misuse old new = Keeps old new
MisuseLeaves (Failed MemoryFailure) old new = Keeps old new
MisuseLeaves _ old new = ⊥

-- What is left of a run whose document and streams stand in files of these names, by what P says of the streams'
-- sources.
abbrev pub SessionLeaves : (files : List ℕ → File) (options : Options) (document : List ℕ) (streams : List (List ℕ))
    (P : List Source → Inquiry → Ending → (old new : Option (List ℕ)) → Type 0) → Ending
    → (old new : Option (List ℕ)) → Type 0
SessionLeaves files options document streams P ending old new =
    LeavesOf options (files document) (MayBeUnread (files document ∷ map files streams) (files document ∷ []))
    (P (sources_of (map files streams))) ending old new

-- Of the files of a document, a report and streams one may be such that it can't be opened, or one of the first two
-- such that it can't be read; or the report is too long.
abbrev pub UnreadClaim : (files : List ℕ → File) (document report : List ℕ) (streams : List (List ℕ)) → Type 0
UnreadClaim files document report streams =
    MayBeUnread (files document ∷ files report ∷ map files streams) (files document ∷ files report ∷ [])
    ⊎ IsLongReport (files report).source

-- ---- a run

-- A run with this exit status came to some end, by which this is left on the output.
pub record Ends (IsLeft : Ending → Type 0) (status : ℕ) (errors_old errors_new : Option (List ℕ)) : Type 0 where
  pub ending : Ending
  pub is_status : status ≡ status_of ending
  pub output : IsLeft ending
  pub errors : Reports ending errors_old errors_new
