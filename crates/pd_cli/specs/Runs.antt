-- What a run of the program leaves, by what its arguments ask for: one rule for all commands.
use Rattle.std.specs.Prelude.{⊤, ◌≡◌, ◌≢◌, ◌⊎◌, ◌<◌, ◌∷◌, ◌++◌, [], ℕ, Bool, true, false, if◌then◌else◌, All, List, Option, Some, None, IfSome, codes, length, map, nat_lt, take}
use Rattle.std.specs.List.{list_any}
use Rattle.std.specs.Io.KnownBytes.{Keeps}
use Rattle.def_format.specs.Documents.{Document, Inquiry, IsDocument, Options}
use Rattle.def_format.specs.Limits.{report_byte_limit}
use Rattle.def_format.specs.Reports.{Report, Judged, Refused}
use Rattle.def_judgement.specs.Findings.{names_asked}
use Rattle.def_judgement.specs.Writes.{IsBrokenOff, IsTextOfBundle, IsTextOfStreams, IsTooLong, Source, Whole, Writes}
use Rattle.app_arguments.specs.Conditions.{is_asked_for}
use Rattle.app_arguments.specs.Formats.{Format, Plain, Json}
use Rattle.app_arguments.specs.Places.{Place}
use Rattle.app_arguments.specs.Statuses.{Alarm, BundleFailure, BundleRuns, CheckFiles, DrawFiles, Ending, ExploreFiles, Failed, File, InferDocument, IsTextOfAccepted, JudgeFiles, JudgeInput, JudgeLines, MayBeUnread, MemoryFailure, MergeLines, Misuse, Negative, NetworkFailure, NoPredicate, OfClaim, OfDocument, ReadFailure, ReduceRun, Request, ServeStreams, ShowHelp, ShowVersion, Success, TestRuns, Unclear, WriteFailure, WritesUpTo, line_of_failure, sources_of, status_of_failure}
use Rattle.judge_runs.specs.Runs.{Fail, NotJudged, Run, count_of, verdict_of_run}
use Rattle.judge_runs.specs.Wishes.{Condition, lacks_name}
use Rattle.app_host.specs.FileSources.{bytes_in}
use Rattle.app_host.specs.Formats.{IsFindingIn}
use Rattle.app_infer.specs.Inferences.{EndsInferred}
use Rattle.app_reduce.specs.Reduced.{ReduceLeaves}
use Rattle.app_results.specs.RunReports.{IsReportOf}
use Rattle.app_serve.specs.Served.{IsServed}
use Rattle.app_test.specs.Tests.{IsTestText}
use Rattle.app_batch.specs.Batches.{BatchLeaves}
use Rattle.app_bundle.specs.Bundles.{BundleLeaves}
use Rattle.app_merge.specs.Merges.{EndsMerged}
use Rattle.app_draw.specs.ShownDrawings.{EndsShown}
use Rattle.app_explore.specs.Explorations.{AskedObject, AskedPage, IsNotesFile, IsOwedWith}

-- ---- how a run ends

-- the run ends as is due, or its output fails
abbrev pub EndsBy : (due : Ending) → Ending → Type 0
EndsBy due ending = (ending ≡ due) ⊎ (ending ≡ Failed WriteFailure)

-- the end that is due of a report: the session has an answer to fail on, or none, or is refused
abbrev pub due_of_report : (fail_on : List Condition) → Report → Ending
due_of_report fail_on (Judged processes events messages answers) =
    if list_any (λ condition. list_any (is_asked_for condition) answers) fail_on then Alarm else Success
due_of_report fail_on (Refused refusal) = Negative

-- the end that is due of recorded runs: one fails, or none does and one isn't judged, or all pass
abbrev pub due_of_runs : List Condition → List Run → Ending
due_of_runs wishes runs =
    if nat_lt 0 (count_of Fail (map (verdict_of_run wishes) runs)) then Alarm else
    (if nat_lt 0 (count_of NotJudged (map (verdict_of_run wishes) runs)) then Negative else Success)

-- the exit status, and the line that is reported
abbrev pub report_of : Ending → ℕ × List ℕ
report_of Success = (0, [])
report_of Negative = (1, [])
report_of Alarm = (5, [])
report_of NoPredicate = (2, codes "monitor: no predicate of this name\n")
report_of Misuse = (2, [])
report_of (Failed failure) = (status_of_failure failure, line_of_failure failure)

-- A run with this exit status came to some end, by which this is left on the output, and a line on the errors, or a
-- prefix of it if they take no more. What is reported of refused arguments is the parser's.
pub record By (IsLeft : Ending → (old new : Option (List ℕ)) → Type 0) (status : ℕ)
    (old new errors_old errors_new : Option (List ℕ)) : Type 0 where
  pub ending : Ending
  pub is_status : status ≡ (report_of ending).0
  pub output : IsLeft ending old new
  pub errors : (ending ≡ Misuse) ⊎ WritesUpTo (λ text. text ≡ (report_of ending).1) errors_old errors_new

-- ---- what is left on the output

-- A text of which this holds is left: all of it, or of a run that fails all of it or a prefix.
abbrev pub LeavesText : (IsOwed : List ℕ → Type 0) → Ending → (old new : Option (List ℕ)) → Type 0
LeavesText IsOwed (Failed failure) old new = WritesUpTo IsOwed old new
LeavesText IsOwed ending old new = Writes IsOwed Whole old new

-- the text of a report by which the run ends, where IsText holds of it by what is said of the report
abbrev pub LeavesReport : (IsText : (Report → Type 0) → List ℕ → Type 0) (fail_on : List Condition) → Ending
    → (old new : Option (List ℕ)) → Type 0
LeavesReport IsText fail_on ending =
    LeavesText (IsText (λ report. EndsBy (due_of_report fail_on report) ending)) ending

-- the text of a test of the runs in these folders, by which the run ends, and if it fails that of the first of them
abbrev pub IsTestAt : (files : List ℕ → File) (options : Options) (wishes : List Condition) (format : Format)
    (folders : List (List ℕ)) → Ending → (text : List ℕ) → Type 0
IsTestAt files options wishes format folders (Failed failure) text =
    ((failure ≡ WriteFailure) ⊎ (failure ≡ MemoryFailure))
    × (count : ℕ)
    × IsTestText files options wishes format (IsReportOf files options) (λ _. ⊤) (take count folders) text
IsTestAt files options wishes format folders ending text =
    IsTestText files options wishes format (IsReportOf files options) (λ runs. ending ≡ due_of_runs wishes runs) folders
    text

-- ---- what is left of a document

-- the document, if the inquiry is of one, has each predicate that is named
abbrev pub HasNamed : (named : List (Option (List ℕ))) → Inquiry → Type 0
HasNamed named inquiry = (document : Document) → IsDocument inquiry document
    → list_any (lacks_name (names_asked document)) named ≡ false

-- What is left of a run whose document stands in this file. A file can't be opened or read, which is so only if that
-- may be: nothing. The document, with what is asked, lacks a predicate that is named: nothing. It has all, or is
-- refused: what P says.
abbrev pub OfSession : (options : Options) (document : File) (IsUnread : Type 0) (named : List (Option (List ℕ)))
    (P : Inquiry → Ending → (old new : Option (List ℕ)) → Type 0) → Ending → (old new : Option (List ℕ)) → Type 0
OfSession options document IsUnread named P (Failed ReadFailure) old new = IsUnread × Keeps old new
OfSession options document IsUnread named P NoPredicate old new =
    OfDocument options document (λ inquiry. (¬ HasNamed named inquiry) × Keeps old new)
OfSession options document IsUnread named P ending old new =
    OfDocument options document (λ inquiry. HasNamed named inquiry × P inquiry ending old new)

-- ---- what is asked for

-- The text of the report of a document and of the streams that these sources gave, in this format, or the object that
-- says more of it, with some files of these names.
abbrev pub IsJudgedIn : (bytes_of : List ℕ → Option (List ℕ)) → Format → (names : List (List ℕ)) → Inquiry
    → (streams : List Source) (IsSaid : Report → Type 0) (text : List ℕ) → Type 0
IsJudgedIn bytes_of Plain names = IsTextOfStreams
IsJudgedIn bytes_of Json names = IsOwedWith bytes_of AskedObject names

abbrev pub names_in : List Condition → List (Option (List ℕ))
names_in conditions = map (λ (condition : Condition). condition.name) conditions

-- By what is asked for, where of the input and of the file of each name this is known, a connection to each place may
-- be such a source, and the network serves or may fail to. If memory runs out, `RunsAs` says what is left.
abbrev pub Leaves : (input : Source) (files : List ℕ → File) (connections : Place → Source → Type 0)
    (network_serves : Bool) → Request → (status : ℕ) (old new errors_old errors_new : Option (List ℕ)) → Type 0
Leaves input files connections network_serves JudgeInput =
    By (λ ending old new.
    -- the bundle isn't read, or is too long
    ((ending ≡ Failed ReadFailure) × IsBrokenOff input ⊎ (ending ≡ Failed BundleFailure) × IsTooLong input)
    × Keeps old new ⊎ LeavesReport (IsTextOfBundle input) [] ending old new)
Leaves input files connections network_serves (JudgeFiles options fail_on format document streams) =
    By (OfSession options (files document) (MayBeUnread (files document ∷ map files streams) (files document ∷ []))
    (names_in fail_on) (λ inquiry.
    LeavesReport (IsJudgedIn (bytes_in files) format streams inquiry (sources_of (map files streams))) fail_on))
Leaves input files connections network_serves (CheckFiles options format document report streams) =
    By (OfSession options (files document)
    (MayBeUnread (files document ∷ files report ∷ map files streams) (files document ∷ files report ∷ [])
    ⊎ IfSome (files report).source.bytes (λ bytes. report_byte_limit < length bytes)) []
    (λ inquiry ending old new. OfClaim (files report).source (λ claim. (good : Bool)
    × EndsBy (if good then Success else Negative) ending
    × LeavesText (IsFindingIn format inquiry claim (sources_of (map files streams)) (Some good)) ending old new)))
Leaves input files connections network_serves (DrawFiles options scope document others) =
    EndsShown files options document others scope
Leaves input files connections network_serves
    (ServeStreams options fail_on format document place port_file watchers wait keep) =
    By (OfSession options (files document) (MayBeUnread (files document ∷ []) (files document ∷ []))
    (names_in fail_on) (λ inquiry ending old new.
    -- Not all places may be bound and connections accepted: the network may fail, or they are waited for no longer than
    -- some seconds. Or the session is to be kept, or a port to be named in a file, and that may not be written.
    ((ending ≡ Failed NetworkFailure) × (wait ≡ None → network_serves ≡ true → ⊥)
    ⊎ (ending ≡ Failed WriteFailure) × ((keep ≢ None) ⊎ (port_file ≢ None)))
    × ((document : Document) × IsDocument inquiry document) × Keeps old new
    ⊎ LeavesReport (IsTextOfAccepted (IsServed format) inquiry (connections place)) fail_on ending old new))
Leaves input files connections network_serves (ExploreFiles options fail_on page document streams) =
    By (OfSession options (files document)
    (MayBeUnread (files document ∷ map files streams) (files document ∷ [])
    ⊎ ¬ All IsNotesFile (map files page.notes))
    (names_in fail_on ++ names_in page.wishes) (λ inquiry.
    LeavesReport (IsOwedWith (bytes_in files) (AskedPage page) streams inquiry (sources_of (map files streams)))
    fail_on))
Leaves input files connections network_serves (TestRuns options wishes format runs) =
    By (λ ending. LeavesText (IsTestAt files options wishes format runs ending) ending)
Leaves input files connections network_serves (InferDocument streams) = EndsInferred files streams
Leaves input files connections network_serves (ReduceRun options document streams folder) =
    By (OfSession options (files document)
    (MayBeUnread (files document ∷ map files streams) (files document ∷ map files streams)) []
    (λ inquiry. ReduceLeaves inquiry (sources_of (map files streams))))
Leaves input files connections network_serves (JudgeLines options fail_on in_bundles) =
    By (BatchLeaves input options fail_on in_bundles)
Leaves input files connections network_serves (BundleRuns runs) = By (BundleLeaves files runs)
Leaves input files connections network_serves MergeLines = EndsMerged input
Leaves input files connections network_serves ShowHelp = By (λ ending old new. EndsBy Success ending)
Leaves input files connections network_serves ShowVersion =
    By (λ ending old new. EndsBy Success ending × LeavesText (λ text. text ≡ codes "monitor 1.0.0\n") ending old new)
Leaves input files connections network_serves Unclear = By (λ ending old new. (ending ≡ Misuse) × Keeps old new)

-- The run does what is asked for; or memory runs out, maybe before it is known what that is, and nothing is written.
abbrev pub RunsAs : (IsAsked : Request → Type 0) (input : Source) (files : List ℕ → File)
    (connections : Place → Source → Type 0) (network_serves : Bool) (status : ℕ)
    (old new errors_old errors_new : Option (List ℕ)) → Type 0
RunsAs IsAsked input files connections network_serves status old new errors_old errors_new =
    By (λ ending old new. (ending ≡ Failed MemoryFailure) × Keeps old new) status old new errors_old errors_new
    ⊎ (request : Request) × IsAsked request
    × Leaves input files connections network_serves request status old new errors_old errors_new

-- the line that reports an argument that isn't text
abbrev pub IsUnreadLine : List ℕ → Type 0
IsUnreadLine text = text ≡ codes "monitor: a word is not UTF-8\n"
