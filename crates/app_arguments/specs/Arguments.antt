-- What the arguments after the program's name ask for, as the command line's parser takes them.
use Rattle.std.specs.Prelude.{◌≡◌, ◌≢◌, ◌⊎◌, ◌↔◌, ◌≤◌, ◌++◌, ⊤, ℕ, Bool, true, false, IsTrue, List, [], codes, length, map, option_map, unwrap_or, Option, Some, None, IfSome, Ok}
use Rattle.std.specs.Net.Grammar.{IsIpText}
use Rattle.std.specs.Str.Parse.{ParsesUnsigned}
use Rattle.std.specs.declared.net.ip_addr.IpAddr.{IpAddr}
use Rattle.clap.specs.Words.{Row, Text, IsAmong, all_of, fault_of, first_of, one_of, subcommand_of}
use Rattle.clap.specs.declared.error.kind.ErrorKind.{ErrorKind}
use Rattle.clap.specs.declared.error.kind.ErrorKind.TheVariants.{DisplayHelp, DisplayVersion}
use Rattle.def_format.specs.Documents.{Options}
use Rattle.def_format.specs.Limits.{worker_limit}
use Rattle.def_format.specs.Lines.{has_line_feed}
use Rattle.def_format.specs.Reports.{with_commas}
use Rattle.app_arguments.specs.Conditions.{AreLawful, text_for}
use Rattle.app_arguments.specs.Formats.{Format, format_text}
use Rattle.app_arguments.specs.Places.{Place, OnPort, OnSocket}
use Rattle.app_arguments.specs.Table.{monitor_app, port_limit, token_limit, watcher_limit}
use Rattle.app_arguments.specs.Wishes.{or_none_ever, wishes_for}
use Rattle.judge_runs.specs.Wishes.{Condition, DefinitelyYes, PossiblyNo, PossiblyYes}
use Rattle.out_picture.specs.Scopes.{Scope}
use Rattle.out_picture.specs.declared.extent.Extent.{Extent}
use Rattle.out_picture.specs.declared.extent.Extent.TheVariants.{Around, From, All}
use Rattle.out_picture.specs.declared.kind.Kind.{Kind}
use Rattle.out_picture.specs.declared.kind.Kind.TheVariants.{Possibly, Definitely}
use Rattle.app_arguments.specs.Statuses.{PageOptions, Request, JudgeInput, JudgeFiles, CheckFiles, DrawFiles, ServeStreams, ExploreFiles, TestRuns, InferDocument, ReduceRun, JudgeLines, BundleRuns, MergeLines, ShowHelp, ShowVersion, Unclear}

-- ---- the values of options

-- the option of this id has this number, which is parsed as a decimal one of 64 bits
abbrev pub NamesNumber : List Row → (id : Text) → ℕ → Type 0
NamesNumber rows id n = (text : Text) × (first_of id rows ≡ Some text) × ParsesUnsigned {E = ⊤} 64 10 text (Ok n)

-- the number of the option of this id, if it has one
abbrev pub MayNameNumber : List Row → (id : Text) → (number : Option ℕ) → Type 0
MayNameNumber rows id None = (n : ℕ) → ¬ NamesNumber rows id n
MayNameNumber rows id (Some number) = NamesNumber rows id number

-- The flag of this id is given exactly if the text of its row is "true". The parser puts that there where the flag
-- stands among the arguments, and "false" where it doesn't.
abbrev pub SaysFlag : List Row → (id : Text) (is_given : Bool) → Type 0
SaysFlag rows id is_given = IsTrue is_given ↔ (one_of id rows ≡ Some (codes "true"))

-- the texts of the option of this id, which is given again and again: none if it isn't given
abbrev pub texts_of : List Row → (id : Text) → List Text
texts_of rows id = unwrap_or (all_of id rows) []

-- The option of this id says how many threads share the work: some, and not too many. How many there are changes
-- nothing of what is asked for.
abbrev pub HasThreads : List Row → (id : Text) → Type 0
HasThreads rows id = (threads : ℕ) × NamesNumber rows id threads × (1 ≤ threads) × (threads ≤ worker_limit)

abbrev pub HasWorkers : List Row → Type 0
HasWorkers rows = HasThreads rows (codes "WORKERS")

-- as many runs or sessions are judged side by side
abbrev pub HasJobs : List Row → Type 0
HasJobs rows = HasThreads rows (codes "JOBS")

-- what is asked beside the document, but for whether what is decided whatever the width is
pub record NamesOptions (rows : List Row) (options : Options) : Type 0 where
  pub names_width : MayNameNumber rows (codes "WIDTH") options.width
  pub names_predicates : options.predicates ≡ texts_of rows (codes "TEXT")

-- the same, with that
abbrev pub NamesAllOptions : List Row → Options → Type 0
NamesAllOptions rows options = NamesOptions rows options × SaysFlag rows (codes "BEYOND_WIDTH") options.beyond_width

-- the conditions of a list, or none if there is no list
abbrev pub AreConditions : Option Text → List Condition → Type 0
AreConditions None conditions = conditions ≡ []
AreConditions (Some list) conditions =
    AreLawful conditions × (list ≡ with_commas (map (λ (c : Condition). text_for c.name c.kind) conditions))

-- the names of the files of a session document and of those beside it, which have this id
abbrev pub NamesSession : List Row → (id document : Text) (files : List Text) → Type 0
NamesSession rows id document files = (first_of (codes "SPEC") rows ≡ Some document) × (all_of id rows ≡ Some files)

-- what a judgement is asked for beside the names of files
abbrev pub NamesJudging : List Row → Options → (fail_on : List Condition) → Type 0
NamesJudging rows options fail_on =
    NamesAllOptions rows options × AreConditions (first_of (codes "LIST") rows) fail_on × HasWorkers rows

-- the format of what is written, which is lines of text if none is named
abbrev pub NamesFormat : List Row → Format → Type 0
NamesFormat rows format = unwrap_or (first_of (codes "FORMAT") rows) (codes "text") ≡ format_text format

-- the word for a kind of evidence
abbrev pub kind_text : Kind → Text
kind_text Possibly = codes "possibly"
kind_text Definitely = codes "definitely"

-- how much of the run is asked for: all columns, or those from one on, and not both
abbrev pub NamesExtent : List Row → Extent → Type 0
NamesExtent rows Around = MayNameNumber rows (codes "COLUMN") None × SaysFlag rows (codes "ALL") false
NamesExtent rows (From column) = NamesNumber rows (codes "COLUMN") column × SaysFlag rows (codes "ALL") false
NamesExtent rows All = MayNameNumber rows (codes "COLUMN") None × SaysFlag rows (codes "ALL") true

-- what is asked of a picture
pub record NamesScope (rows : List Row) (scope : Scope) : Type 0 where
  pub names_predicate : first_of (codes "PREDICATE") rows ≡ scope.name
  pub names_kind : first_of (codes "KIND") rows ≡ option_map kind_text scope.kind
  pub names_extent : NamesExtent rows scope.extent

-- A place where connections are accepted, by the texts of a port's number, an address, a socket's path and the name of
-- a port's file: a port that isn't the last one, and any free one with such a file alone; or a socket.
abbrev pub IsPlace : List Row → (address path file : Option Text) → Place → Type 0
IsPlace rows address path file (OnPort of port) =
    NamesNumber rows (codes "PORT") port × (port ≤ port_limit) × (port ≡ 0 → file ≢ None)
    × (of ≡ address) × IfSome address (λ text. (ip : IpAddr) × IsIpText text ip) × (path ≡ None)
IsPlace rows address path file (OnSocket of) =
    (path ≡ Some of) × (first_of (codes "PORT") rows ≡ None) × (address ≡ None) × (file ≡ None)

-- a token: a line that isn't empty, and isn't too long
abbrev pub IsToken : Text → Type 0
IsToken token = (1 ≤ length token) × (length token ≤ token_limit) × (has_line_feed token ≡ false)

-- a token is named by its text, or by a file in which it stands, or there is none
abbrev pub NamesToken : List Row → Type 0
NamesToken rows =
    IfSome (first_of (codes "TOKEN") rows) (λ token. IsToken token × (first_of (codes "TOKEN_FILE") rows ≡ None))

-- what a server is asked for
pub record NamesService (rows : List Row) (document : Text) (place : Place) (port_file : Option Text) (watchers : ℕ)
    (wait : Option ℕ) (keep : Option Text) : Type 0 where
  pub names_document : first_of (codes "SPEC") rows ≡ Some document
  pub is_place : IsPlace rows (first_of (codes "ADDRESS") rows) (first_of (codes "PATH") rows) port_file place
  pub names_file : first_of (codes "PORT_FILE") rows ≡ port_file
  pub names_watchers : NamesNumber rows (codes "WATCHERS") watchers
  pub few_watchers : watchers ≤ watcher_limit
  pub names_wait : MayNameNumber rows (codes "SECONDS") wait
  pub names_keep : first_of (codes "FOLDER") rows ≡ keep
  pub names_token : NamesToken rows

-- what is wished by the names of three options
abbrev pub wishes_in : List Row → List Condition
wishes_in rows =
    wishes_for PossiblyNo (texts_of rows (codes "NEVER")) ++ wishes_for DefinitelyYes (texts_of rows (codes "ALWAYS"))
    ++ wishes_for PossiblyYes (texts_of rows (codes "SOMETIMES"))

-- what is asked of a page
pub record NamesPage (rows : List Row) (page : PageOptions) : Type 0 where
  pub are_wishes : page.wishes ≡ wishes_in rows
  pub are_notes : page.notes ≡ texts_of rows (codes "NOTES")
  pub is_link : page.link ≡ first_of (codes "PATTERN") rows

-- the folders of recorded runs, with what is asked beside their documents, what is wished of their predicates, and the
-- format of what is written
pub record NamesTest (rows : List Row) (runs : List Text) (options : Options) (wishes : List Condition)
    (format : Format) : Type 0 where
  pub names_runs : all_of (codes "RUN") rows ≡ Some runs
  pub names_options : NamesOptions rows options
  -- what is decided whatever the width is always asked for
  pub any_width : options.beyond_width ≡ true
  pub some_workers : HasWorkers rows
  pub some_jobs : HasJobs rows
  pub are_wishes : wishes ≡ or_none_ever (wishes_in rows)
  pub names_format : NamesFormat rows format

-- ---- what is asked for

-- what the rows of this command name
abbrev pub NamesBy : (command : Text) → List Row → Request → Type 0
NamesBy command rows (JudgeFiles options fail_on format document streams) =
    (command ≡ codes "judge") × NamesSession rows (codes "STREAM") document streams × NamesJudging rows options fail_on
    × NamesFormat rows format
NamesBy command rows (CheckFiles options format document report streams) =
    (command ≡ codes "check") × NamesSession rows (codes "STREAM") document streams × NamesOptions rows options
    × (options.beyond_width ≡ false) × (first_of (codes "REPORT") rows ≡ Some report) × NamesFormat rows format
NamesBy command rows (DrawFiles options scope document files) =
    (command ≡ codes "draw") × NamesSession rows (codes "FILE") document files × NamesAllOptions rows options
    × NamesScope rows scope
NamesBy command rows (ServeStreams options fail_on format document place port_file watchers wait keep) =
    (command ≡ codes "serve") × NamesService rows document place port_file watchers wait keep
    × NamesJudging rows options fail_on × NamesFormat rows format
NamesBy command rows (ExploreFiles options fail_on page document streams) =
    (command ≡ codes "explore") × NamesSession rows (codes "STREAM") document streams
    × NamesJudging rows options fail_on × NamesPage rows page
NamesBy command rows (TestRuns options wishes format runs) =
    (command ≡ codes "test") × NamesTest rows runs options wishes format
NamesBy command rows (InferDocument streams) = (command ≡ codes "infer") × (all_of (codes "STREAM") rows ≡ Some streams)
NamesBy command rows (ReduceRun options document streams folder) =
    (command ≡ codes "reduce") × NamesSession rows (codes "STREAM") document streams × NamesOptions rows options
    × (options.beyond_width ≡ false) × (first_of (codes "FOLDER") rows ≡ Some folder)
NamesBy command rows (JudgeLines options fail_on in_bundles) =
    (command ≡ codes "batch") × NamesJudging rows options fail_on × HasJobs rows
    × SaysFlag rows (codes "BUNDLES") in_bundles
NamesBy command rows (BundleRuns runs) = (command ≡ codes "bundle") × (all_of (codes "RUN") rows ≡ Some runs)
NamesBy command rows MergeLines = command ≡ codes "merge"
NamesBy command rows _ = ⊥

-- What the arguments ask for. If the parser finds nothing wrong, it is what the rows name that it found of the command,
-- and with no command the bundle on the input is judged. If it does, they ask for a text that is shown, or have some
-- other fault; and so have those of a command whose rows name nothing that could be.
pub data AsksFor (arguments : List Text) : Request → Type 0 where
  of_input : fault_of monitor_app arguments ≡ [] → subcommand_of monitor_app arguments ≡ None
      → AsksFor arguments JudgeInput
  of_command : (command : Text) (rows : List Row) (request : Request) → fault_of monitor_app arguments ≡ []
      → subcommand_of monitor_app arguments ≡ Some (command, rows) → NamesBy command rows request
      → AsksFor arguments request
  of_help : IsAmong DisplayHelp (fault_of monitor_app arguments) → AsksFor arguments ShowHelp
  of_version : IsAmong DisplayVersion (fault_of monitor_app arguments) → AsksFor arguments ShowVersion
  of_fault : (kind : ErrorKind) → ¬ ((kind ≡ DisplayHelp) ⊎ (kind ≡ DisplayVersion))
      → IsAmong kind (fault_of monitor_app arguments) → AsksFor arguments Unclear
  of_nothing : (command : Text) (rows : List Row) → subcommand_of monitor_app arguments ≡ Some (command, rows)
      → ((request : Request) → ¬ NamesBy command rows request) → AsksFor arguments Unclear

-- ---- names for parts of this, by which contracts speak of them

-- the text that such an error has is asked for, and reports nothing wrong
abbrev pub IsShownKind : ErrorKind → Type 0
IsShownKind kind = (kind ≡ DisplayHelp) ⊎ (kind ≡ DisplayVersion)

-- the parser finds nothing wrong
abbrev pub AreTaken : List Text → Type 0
AreTaken arguments = fault_of monitor_app arguments ≡ []

-- the parser finds this wrong, or something else
abbrev pub HasFault : List Text → ErrorKind → Type 0
HasFault arguments kind = IsAmong kind (fault_of monitor_app arguments)

-- the arguments are those of the command of this name, and the parser found these rows in them
abbrev pub AreOf : (command : Text) → List Text → List Row → Type 0
AreOf command arguments rows = subcommand_of monitor_app arguments ≡ Some (command, rows)

-- the text is a decimal number of 64 bits
abbrev pub IsNumberText : Text → ℕ → Type 0
IsNumberText text n = ParsesUnsigned {E = ⊤} 64 10 text (Ok n)

-- some workers, and not too many
abbrev pub IsWorkers : ℕ → Type 0
IsWorkers workers = (1 ≤ workers) × (workers ≤ worker_limit)

-- the number of threads that the option of this id names
abbrev pub NamesThreads : List Row → (id : Text) → (threads : ℕ) → Type 0
NamesThreads rows id threads = NamesNumber rows id threads × IsWorkers threads

-- the text of an address of the internet protocol
abbrev pub IsAddressText : Text → Type 0
IsAddressText text = (ip : IpAddr) × IsIpText text ip
