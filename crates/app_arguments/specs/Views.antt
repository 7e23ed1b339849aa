-- What the program is asked for, as the definitions name it.
use Rattle.std.specs.Prelude.{◌≡◌, ◌≢◌, ℕ, Bool, false, true, List, codes, map, option_map, Option, Some, None, MatchOption}
use Rattle.std.specs.Borrow.{Bor}
use Rattle.clap.specs.Matches.{found_of}
use Rattle.clap.specs.Walk.{rows_of}
use Rattle.clap.specs.Words.{Row, Text}
use Rattle.clap.specs.declared.parser.matches.ArgMatches.{ArgMatches}
use Rattle.def_format.specs.Documents.{Options}
use Rattle.clap.specs.declared.error.kind.ErrorKind.{ErrorKind}
use Rattle.clap.specs.declared.error.kind.ErrorKind.TheVariants.{DisplayHelp, DisplayVersion, OutOfMemory}
use Rattle.app_arguments.specs.Arguments.{AsksFor, HasWorkers, IsShownKind, NamesBy, NamesJudging, NamesService, NamesSession}
use Rattle.app_arguments.specs.ConditionViews.{fail_on_view}
use Rattle.app_arguments.specs.Formats as written
use Rattle.app_arguments.specs.Places as places
use Rattle.app_arguments.specs.Statuses as asked
use Rattle.app_arguments.specs.Table.{Argument}
use Rattle.app_arguments.specs.declared.format.Format.{Format}
use Rattle.app_arguments.specs.declared.format.Format.TheVariants as formats
use Rattle.app_arguments.specs.declared.place.Place.{Place}
use Rattle.app_arguments.specs.declared.place.Place.TheVariants.{Port, Socket}
use Rattle.app_arguments.specs.declared.request.Judgement.{Judgement}
use Rattle.app_arguments.specs.declared.request.PageOptions.{PageOptions}
use Rattle.app_arguments.specs.declared.request.Request.{Request}
use Rattle.app_arguments.specs.declared.request.Request.TheVariants.{Bundle, Judge, Check, Draw, Serve, Explore, Test, Infer, Reduce, Batch, BundleRuns, Merge}
use Rattle.app_arguments.specs.declared.request.Service.{Service}
use Rattle.app_arguments.specs.declared.request.SessionNames.{SessionNames}
use Rattle.app_arguments.specs.declared.table.Row as rows
use Rattle.judge_runs.specs.Views.{wishes_view}
use Rattle.judge_runs.specs.Wishes.{Condition}
use Rattle.out_picture.specs.Scopes.{scope_view}
use Rattle.out_picture.specs.declared.extent.Extent.{Extent}
use Rattle.out_picture.specs.declared.extent.Extent.TheVariants.{Around, From, All}
use Rattle.pd_spec.specs.Views.{options_view}

-- ---- the table

-- a text, as the bytes that it has
abbrev pub text_view : Option (Bor (List ℕ)) → Option (List ℕ)
text_view text = option_map (λ (bytes : Bor (List ℕ)). bytes.now) text

-- a row of the table
abbrev pub row_view : rows.Row → Argument
row_view row =
    record { id = row.id.now; long = text_view row.long; default = text_view row.default; kind = row.kind }

-- ---- a request

-- names, as the bytes that they hold
abbrev pub names_view : List (Bor (List ℕ)) → List (List ℕ)
names_view names = map (λ (name : Bor (List ℕ)). name.now) names

-- the names of the document's file and of the streams' files
abbrev pub session_view : SessionNames → List ℕ × List (List ℕ)
session_view names = (names.spec.now, map (λ name. name.now) names.streams.items)

abbrev pub format_view : Format → written.Format
format_view formats.Plain = written.Plain
format_view formats.Json = written.Json

abbrev pub place_view : Place → places.Place
place_view (Port address port) = places.OnPort (text_view address) port
place_view (Socket path) = places.OnSocket path.now

abbrev pub page_view : PageOptions → asked.PageOptions
page_view page = record {
  wishes = wishes_view page.wishes.items;
  notes = names_view page.notes.items;
  link = text_view page.link;
}

-- what is asked for
abbrev pub request_view : Request → asked.Request
request_view Bundle = asked.JudgeInput
request_view (Judge judgement format) =
    asked.JudgeFiles (options_view judgement.names.options) (fail_on_view judgement.fail_on) (format_view format)
    (session_view judgement.names).0 (session_view judgement.names).1
request_view (Check report names format) =
    asked.CheckFiles (options_view names.options) (format_view format) (session_view names).0 report.now
    (session_view names).1
request_view (Draw scope names) =
    asked.DrawFiles (options_view names.options) (scope_view scope) (session_view names).0 (session_view names).1
request_view (Serve service) =
    asked.ServeStreams (options_view service.options) (fail_on_view service.fail_on) (format_view service.format)
    service.spec.now (place_view service.place) (text_view service.port_file) service.watchers service.wait
    (text_view service.keep)
request_view (Explore judgement page) =
    asked.ExploreFiles (options_view judgement.names.options) (fail_on_view judgement.fail_on) (page_view page)
    (session_view judgement.names).0 (session_view judgement.names).1
request_view (Test test) =
    asked.TestRuns (options_view test.options) (wishes_view test.wishes.items) (format_view test.format)
    (names_view test.runs.items)
request_view (Infer streams) = asked.InferDocument (names_view streams.items)
request_view (Reduce reduction) =
    asked.ReduceRun (options_view reduction.names.options) (session_view reduction.names).0
    (session_view reduction.names).1 reduction.folder.now
request_view (Batch batch) =
    asked.JudgeLines (options_view batch.options) (fail_on_view batch.fail_on) batch.in_bundles
request_view (BundleRuns runs) = asked.BundleRuns (names_view runs.items)
request_view Merge = asked.MergeLines

-- the arguments ask for this
abbrev pub IsAsked : List Text → Request → Type 0
IsAsked arguments request = AsksFor arguments (request_view request)

-- the same of a request; with none the arguments ask for nothing that can be done
abbrev pub IsAskedIf : List Text → Option Request → Type 0
IsAskedIf arguments None = AsksFor arguments asked.Unclear
IsAskedIf arguments (Some request) = IsAsked arguments request

-- ---- what is found in rows, or that it isn't there

-- what the parser found
abbrev pub rows_in : ArgMatches → List Row
rows_in matches = rows_of (found_of matches)

-- the value of which P holds, or that it holds of none
abbrev pub Finds : {A B : Type 0} → (P : B → Type 0) → (view : A → B) → Option A → Type 0
Finds {B = B} P view found = MatchOption found ((value : B) → ¬ P value) (λ value. P (view value))

-- what a judgement of a session's files is asked for
abbrev pub NamesJudgement : List Row → (document : Text) (streams : List Text) → Options → (fail_on : List Condition)
    → Type 0
NamesJudgement rows document streams options fail_on =
    NamesSession rows (codes "STREAM") document streams × NamesJudging rows options fail_on

-- a judgement of files that is named, or that there is none
abbrev pub FindsJudgement : List Row → Option Judgement → Type 0
FindsJudgement rows found =
    MatchOption found ((document : Text) (streams : List Text) (options : Options) (fail_on : List Condition)
    → ¬ NamesJudgement rows document streams options fail_on)
    (λ judgement. NamesJudgement rows (session_view judgement.names).0 (session_view judgement.names).1
    (options_view judgement.names.options) (fail_on_view judgement.fail_on))

-- a server that is named, with a number of workers, or that there is none
abbrev pub FindsService : List Row → Option Service → Type 0
FindsService rows found =
    MatchOption found ((document : Text) (place : places.Place) (port_file : Option Text) (watchers : ℕ)
    (wait : Option ℕ) (keep : Option Text) → NamesService rows document place port_file watchers wait keep
    → ¬ HasWorkers rows)
    (λ service. NamesService rows service.spec.now (place_view service.place) (text_view service.port_file)
    service.watchers service.wait (text_view service.keep) × HasWorkers rows)

-- what the rows of this command name
abbrev pub FindsRequest : (command : Text) → List Row → Option Request → Type 0
FindsRequest command rows found = Finds (NamesBy command rows) request_view found

-- A parse that gives no request says why by its error: the help or the version is asked for, or something is wrong; or
-- memory ran out.
pub record IsErrorOf (arguments : List Text) (kind : ErrorKind) : Type 0 where
  pub help : kind ≡ DisplayHelp → AsksFor arguments asked.ShowHelp
  pub version : kind ≡ DisplayVersion → AsksFor arguments asked.ShowVersion
  pub unclear : kind ≢ OutOfMemory → ¬ IsShownKind kind → AsksFor arguments asked.Unclear

-- how much of the run is asked for by the number of a column, if there is one, and by the flag
abbrev pub extent_by : Option ℕ → (all : Bool) → Option Extent
extent_by None false = Some Around
extent_by None true = Some All
extent_by (Some column) false = Some (From column)
extent_by (Some column) true = None
