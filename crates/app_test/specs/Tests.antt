-- What a test of recorded runs leaves on its output, by the files in their folders, and those that are bundles.
use Rattle.std.specs.Prelude.{◌≡◌, ◌≢◌, ◌⊎◌, ⊤, ℕ, Bool, true, false, List, [], ◌∷◌, ◌++◌, codes, decimal, filter, map, take, Option, Some, None, Result, Ok, Err}
use Rattle.std.specs.List.{AllZip, slice_get}
use Rattle.def_format.specs.Documents.{Document, DocumentFault, Inquiry, IsDocument, IsRefusedDocument, Options}
use Rattle.def_format.specs.Names.{ProcessNames}
use Rattle.def_format.specs.Reports.{Report}
use Rattle.def_judgement.specs.Writes.{Source, Whole, Writes}
use Rattle.app_arguments.specs.Formats.{Format, Plain, Json}
use Rattle.app_arguments.specs.Statuses.{Alarm, Ending, Failed, File, MayBeUnread, MemoryFailure, Negative, OfDocument, Success, WriteFailure, WritesUpTo, sources_of}
use Rattle.judge_bundles.specs.BundleRuns.{IsBundleName, IsOutcomeOfBundle}
use Rattle.judge_results.specs.Results.{results_json}
use Rattle.judge_runs.specs.Runs.{AllPass, Conclusion, Fail, Outcome, Reported, Run, SomeFails, SomeNotJudged, Unnamed, Unread, conclusion, is_same, test_text, verdict_of_run}
use Rattle.judge_runs.specs.Views.{conclusion_view}
use Rattle.def_judgement.specs.Findings.{names_asked}
use Rattle.judge_runs.specs.Wishes.{Condition, first_unnamed}
use Rattle.judge_runs.specs.declared.conclusion.Conclusion as conclusions
use Rattle.judge_shared.specs.SharedReports.{IsRunReportOfInputs}
use Rattle.judge_session.specs.declared.fault.EngineFault.{EngineFault}
use Rattle.app_host.specs.Faults.{failure_view}
use Rattle.serde_json.specs.Data.{Data}

-- ---- the files of a run in a folder

abbrev pub document_in : (folder : List ℕ) → List ℕ
document_in folder = folder ++ codes "/" ++ codes "session.json"

abbrev pub stream_in : (folder : List ℕ) → ProcessNames → List ℕ
stream_in folder process = folder ++ codes "/" ++ (process.name ++ codes ".stream")

-- ---- what comes of a run

-- The report of an inquiry, and of the streams in a folder of its document's processes, in the document's order. The
-- document has each predicate that is wished for. Of a document that is refused no stream is read.
pub record IsReportOfInquiry (files : List ℕ → File) (wishes : List Condition) (folder : List ℕ) (inquiry : Inquiry)
    (report : Report) : Type 0 where
  pub inputs : List Source
  pub of_document : (document : Document) → IsDocument inquiry document
      → (first_unnamed (names_asked document) wishes ≡ None)
      × (inputs ≡ sources_of (map files (map (stream_in folder) document.names)))
  pub of_refused : (fault : DocumentFault) → IsRefusedDocument inquiry fault → inputs ≡ []
  pub given : IsRunReportOfInputs inquiry inputs report

-- What comes of a run in a folder by the document there, with what is asked beside it. The document has each predicate
-- that is wished for, and a process of it has its stream in the file of this name, which may be such that it can't be
-- opened; or this is the name of the first wish for a predicate that it lacks; or the run is judged.
abbrev pub IsReadOutcome : (files : List ℕ → File) (wishes : List Condition) (folder : List ℕ) → Inquiry → Outcome
    → Type 0
IsReadOutcome files wishes folder inquiry (Unread file) =
    (document : Document) × IsDocument inquiry document × (place : ℕ) × (process : ProcessNames)
    × (slice_get document.names place ≡ Some process) × (file ≡ stream_in folder process)
    × MayBeUnread (files file ∷ []) [] × (first_unnamed (names_asked document) wishes ≡ None)
IsReadOutcome files wishes folder inquiry (Unnamed name) =
    (document : Document) × IsDocument inquiry document × (first_unnamed (names_asked document) wishes ≡ Some name)
IsReadOutcome files wishes folder inquiry (Reported report) = IsReportOfInquiry files wishes folder inquiry report

-- What comes of a run in a folder. First the document is read, which may not be possible; then each predicate that is
-- wished for is looked up in it, then the streams are opened, in its order, and then the run is judged.
abbrev pub IsOutcomeOfFolder : (files : List ℕ → File) (options : Options) (wishes : List Condition)
    (folder : List ℕ) → Outcome → Type 0
IsOutcomeOfFolder files options wishes folder outcome =
    (outcome ≡ Unread (document_in folder))
    × MayBeUnread (files (document_in folder) ∷ []) (files (document_in folder) ∷ [])
    ⊎ OfDocument options (files (document_in folder)) (λ inquiry. IsReadOutcome files wishes folder inquiry outcome)

-- What comes of the run that is the bundle in the file of this name. The file may be such that it can't be opened, and
-- is unread; or it is what comes of the bundle by what is known of the file.
abbrev pub IsOutcomeOfFile : (files : List ℕ → File) (options : Options) (wishes : List Condition) (name : List ℕ)
    → Outcome → Type 0
IsOutcomeOfFile files options wishes name outcome =
    (outcome ≡ Unread name) × ((files name).opens ≢ true)
    ⊎ IsOutcomeOfBundle options wishes name (files name).source outcome

-- What comes of the run of this name: its name alone says whether it is a bundle in a file, or a folder.
pub record IsOutcome (files : List ℕ → File) (options : Options) (wishes : List Condition) (name : List ℕ)
    (outcome : Outcome) : Type 0 where
  pub of_bundle : IsBundleName name → IsOutcomeOfFile files options wishes name outcome
  pub of_folder : (¬ IsBundleName name) → IsOutcomeOfFolder files options wishes name outcome

-- ---- the text

-- the line that says how many orders the runs have, if it is known
abbrev pub orders_text : Option ℕ → List ℕ
orders_text None = []
orders_text (Some orders) = codes "orders: " ++ decimal orders ++ codes "\n"

abbrev pub fails_run : List Condition → Run → Bool
fails_run wishes run = is_same Fail (verdict_of_run wishes run)

-- the folders of those of these runs that fail
abbrev pub failing_in : List Condition → List Run → List (List ℕ)
failing_in wishes runs = map (λ (run : Run). run.folder) (filter (fails_run wishes) runs)

-- The text is that of a test of these runs, with this number of orders, in this format. The JSON object has a report of
-- each run that fails, in their order, of which this is said with the run's name.
abbrev pub IsTextOf : Format → (IsReport : (name : List ℕ) → Data → Type 0) → List Condition → List Run
    → (orders : Option ℕ) → (text : List ℕ) → Type 0
IsTextOf Plain IsReport wishes runs orders text = text ≡ test_text wishes runs ++ orders_text orders
IsTextOf Json IsReport wishes runs orders text =
    (reports : List Data) × AllZip IsReport (failing_in wishes runs) reports
    × (text ≡ results_json wishes runs reports orders)

-- The text of a test of the runs in these folders, in this format. Of the runs and of each report this is said; how
-- many orders they have is what was counted, of which nothing more is said.
pub record IsTestText (files : List ℕ → File) (options : Options) (wishes : List Condition) (format : Format)
    (IsReport : (name : List ℕ) → Data → Type 0) (IsSaid : List Run → Type 0) (folders : List (List ℕ))
    (text : List ℕ) : Type 0 where
  pub runs : List Run
  pub are_runs : AllZip (λ folder (run : Run). (run.folder ≡ folder)
      × IsOutcome files options wishes folder run.outcome) folders runs
  pub said : IsSaid runs
  pub orders : Option ℕ
  pub is_text : IsTextOf format IsReport wishes runs orders text

-- What a test leaves. All runs pass, or one fails, or one isn't judged: the text of the test of all runs. The output
-- fails, or memory runs out: the text of a test of the first of them, or a prefix of it.
abbrev pub TestLeaves : (files : List ℕ → File) (options : Options) (wishes : List Condition) (format : Format)
    (IsReport : (name : List ℕ) → Data → Type 0) (folders : List (List ℕ)) → Ending → (old new : Option (List ℕ))
    → Type 0
TestLeaves files options wishes format IsReport folders Success old new =
    Writes (IsTestText files options wishes format IsReport (λ runs. conclusion wishes runs ≡ AllPass) folders)
    Whole old new
TestLeaves files options wishes format IsReport folders Alarm old new =
    Writes (IsTestText files options wishes format IsReport (λ runs. conclusion wishes runs ≡ SomeFails) folders)
    Whole old new
TestLeaves files options wishes format IsReport folders Negative old new =
    Writes (IsTestText files options wishes format IsReport (λ runs. conclusion wishes runs ≡ SomeNotJudged) folders)
    Whole old new
TestLeaves files options wishes format IsReport folders (Failed WriteFailure) old new =
    (count : ℕ) × WritesUpTo (IsTestText files options wishes format IsReport (λ _. ⊤) (take count folders)) old new
TestLeaves files options wishes format IsReport folders (Failed MemoryFailure) old new =
    (count : ℕ) × WritesUpTo (IsTestText files options wishes format IsReport (λ _. ⊤) (take count folders)) old new
TestLeaves files options wishes format IsReport folders _ old new = ⊥

-- ---- names for parts of this, by which contracts speak of them

-- the file of this name in a folder
abbrev pub file_in : (folder name : List ℕ) → List ℕ
file_in folder name = folder ++ codes "/" ++ name

abbrev pub streams_in : (folder : List ℕ) → List ProcessNames → List (List ℕ)
streams_in folder names = map (stream_in folder) names

-- the run is that in this folder, with what comes of it
abbrev pub IsRunIn : (files : List ℕ → File) (options : Options) (wishes : List Condition) (folder : List ℕ) → Run
    → Type 0
IsRunIn files options wishes folder run = (run.folder ≡ folder) × IsOutcome files options wishes folder run.outcome

-- how a test ends that comes to this, or the fault
abbrev pub ending_of : Conclusion → Ending
ending_of AllPass = Success
ending_of SomeFails = Alarm
ending_of SomeNotJudged = Negative

abbrev pub test_ending : Result conclusions.Conclusion EngineFault → Ending
test_ending (Ok end) = ending_of (conclusion_view end)
test_ending (Err fault) = Failed (failure_view fault)

-- it is one JSON object
abbrev pub is_json : Format → Bool
is_json Plain = false
is_json Json = true
