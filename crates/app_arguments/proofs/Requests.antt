-- What the rows of a command name is what is asked for by that command.
use Rattle.std.proofs.Common.{◌≡◌, ◌∙◌, ℕ, List, Option, Some, None, codes, false, refl, sym, true≢false}
use Rattle.std.proofs.lemmas.Slice.Eq.{bytes_eq-Decides}
use Rattle.std.specs.Str.{bytes_eq}
use Rattle.clap.specs.Words.{Row, Text, all_of, first_of}
use Rattle.def_format.specs.Documents.{Options}
use Rattle.judge_runs.specs.Wishes.{Condition}
use Rattle.out_picture.specs.Scopes.{Scope}
use Rattle.app_arguments.specs.Arguments.{HasJobs, HasWorkers, NamesAllOptions, NamesBy, NamesFormat, NamesJudging, NamesOptions, NamesPage, NamesScope, NamesService, NamesSession, NamesTest}
use Rattle.app_arguments.specs.Views.{FindsJudgement, FindsService, NamesJudgement}
use Rattle.app_arguments.specs.declared.request.Judgement.{Judgement}
use Rattle.app_arguments.specs.declared.request.Service.{Service}
use Rattle.app_arguments.specs.Formats.{Format}
use Rattle.app_arguments.specs.Places.{Place}
use Rattle.app_arguments.specs.Statuses.{PageOptions, Request, JudgeInput, JudgeFiles, CheckFiles, DrawFiles, ServeStreams, ExploreFiles, TestRuns, InferDocument, ReduceRun, JudgeLines, BundleRuns, MergeLines, ShowHelp, ShowVersion, Unclear}

differ : (a b : Text) → bytes_eq a b ≡ false → b ≡ a → ⊥
differ a b other same = true≢false (sym ((bytes_eq-Decides a b).1 (sym same)) ∙ other)

pub judge_lacks : (rows : List Row)
    → ((options : Options) (fail_on : List Condition) (format : Format) (document : Text) (streams : List Text)
    → ¬ (NamesSession rows (codes "STREAM") document streams × NamesJudging rows options fail_on
    × NamesFormat rows format))
    → (request : Request) → ¬ NamesBy (codes "judge") rows request
judge_lacks rows none (JudgeFiles options fail_on format document streams) names =
    none options fail_on format document streams (names.1, names.2, names.3)
judge_lacks rows none (CheckFiles options format document report streams) names =
    differ (codes "check") (codes "judge") refl names.0
judge_lacks rows none (DrawFiles options scope document files) names =
    differ (codes "draw") (codes "judge") refl names.0
judge_lacks rows none (ServeStreams options fail_on format document place port_file watchers wait keep) names =
    differ (codes "serve") (codes "judge") refl names.0
judge_lacks rows none (ExploreFiles options fail_on page document streams) names =
    differ (codes "explore") (codes "judge") refl names.0
judge_lacks rows none (TestRuns options wishes format runs) names =
    differ (codes "test") (codes "judge") refl names.0
judge_lacks rows none (InferDocument streams) names =
    differ (codes "infer") (codes "judge") refl names.0
judge_lacks rows none (ReduceRun options document streams folder) names =
    differ (codes "reduce") (codes "judge") refl names.0
judge_lacks rows none (JudgeLines options fail_on in_bundles) names =
    differ (codes "batch") (codes "judge") refl names.0
judge_lacks rows none (BundleRuns runs) names =
    differ (codes "bundle") (codes "judge") refl names.0
judge_lacks rows none MergeLines names = differ (codes "merge") (codes "judge") refl names
judge_lacks rows none JudgeInput names = names
judge_lacks rows none ShowHelp names = names
judge_lacks rows none ShowVersion names = names
judge_lacks rows none Unclear names = names

pub check_lacks : (rows : List Row)
    → ((options : Options) (format : Format) (document : Text) (report : Text) (streams : List Text)
    → ¬ (NamesSession rows (codes "STREAM") document streams × NamesOptions rows options
    × (options.beyond_width ≡ false) × (first_of (codes "REPORT") rows ≡ Some report) × NamesFormat rows format))
    → (request : Request) → ¬ NamesBy (codes "check") rows request
check_lacks rows none (JudgeFiles options fail_on format document streams) names =
    differ (codes "judge") (codes "check") refl names.0
check_lacks rows none (CheckFiles options format document report streams) names =
    none options format document report streams (names.1, names.2, names.3, names.4, names.5)
check_lacks rows none (DrawFiles options scope document files) names =
    differ (codes "draw") (codes "check") refl names.0
check_lacks rows none (ServeStreams options fail_on format document place port_file watchers wait keep) names =
    differ (codes "serve") (codes "check") refl names.0
check_lacks rows none (ExploreFiles options fail_on page document streams) names =
    differ (codes "explore") (codes "check") refl names.0
check_lacks rows none (TestRuns options wishes format runs) names =
    differ (codes "test") (codes "check") refl names.0
check_lacks rows none (InferDocument streams) names =
    differ (codes "infer") (codes "check") refl names.0
check_lacks rows none (ReduceRun options document streams folder) names =
    differ (codes "reduce") (codes "check") refl names.0
check_lacks rows none (JudgeLines options fail_on in_bundles) names =
    differ (codes "batch") (codes "check") refl names.0
check_lacks rows none (BundleRuns runs) names =
    differ (codes "bundle") (codes "check") refl names.0
check_lacks rows none MergeLines names = differ (codes "merge") (codes "check") refl names
check_lacks rows none JudgeInput names = names
check_lacks rows none ShowHelp names = names
check_lacks rows none ShowVersion names = names
check_lacks rows none Unclear names = names

pub draw_lacks : (rows : List Row)
    → ((options : Options) (scope : Scope) (document : Text) (files : List Text)
    → ¬ (NamesSession rows (codes "FILE") document files × NamesAllOptions rows options × NamesScope rows scope))
    → (request : Request) → ¬ NamesBy (codes "draw") rows request
draw_lacks rows none (JudgeFiles options fail_on format document streams) names =
    differ (codes "judge") (codes "draw") refl names.0
draw_lacks rows none (CheckFiles options format document report streams) names =
    differ (codes "check") (codes "draw") refl names.0
draw_lacks rows none (DrawFiles options scope document files) names =
    none options scope document files (names.1, names.2, names.3)
draw_lacks rows none (ServeStreams options fail_on format document place port_file watchers wait keep) names =
    differ (codes "serve") (codes "draw") refl names.0
draw_lacks rows none (ExploreFiles options fail_on page document streams) names =
    differ (codes "explore") (codes "draw") refl names.0
draw_lacks rows none (TestRuns options wishes format runs) names =
    differ (codes "test") (codes "draw") refl names.0
draw_lacks rows none (InferDocument streams) names =
    differ (codes "infer") (codes "draw") refl names.0
draw_lacks rows none (ReduceRun options document streams folder) names =
    differ (codes "reduce") (codes "draw") refl names.0
draw_lacks rows none (JudgeLines options fail_on in_bundles) names =
    differ (codes "batch") (codes "draw") refl names.0
draw_lacks rows none (BundleRuns runs) names =
    differ (codes "bundle") (codes "draw") refl names.0
draw_lacks rows none MergeLines names = differ (codes "merge") (codes "draw") refl names
draw_lacks rows none JudgeInput names = names
draw_lacks rows none ShowHelp names = names
draw_lacks rows none ShowVersion names = names
draw_lacks rows none Unclear names = names

pub serve_lacks : (rows : List Row)
    → ((options : Options) (fail_on : List Condition) (format : Format) (document : Text) (place : Place)
    (port_file : Option Text) (watchers : ℕ) (wait : Option ℕ) (keep : Option Text)
    → ¬ (NamesService rows document place port_file watchers wait keep × NamesJudging rows options fail_on
    × NamesFormat rows format))
    → (request : Request) → ¬ NamesBy (codes "serve") rows request
serve_lacks rows none (JudgeFiles options fail_on format document streams) names =
    differ (codes "judge") (codes "serve") refl names.0
serve_lacks rows none (CheckFiles options format document report streams) names =
    differ (codes "check") (codes "serve") refl names.0
serve_lacks rows none (DrawFiles options scope document files) names =
    differ (codes "draw") (codes "serve") refl names.0
serve_lacks rows none (ServeStreams options fail_on format document place port_file watchers wait keep) names =
    none options fail_on format document place port_file watchers wait keep (names.1, names.2, names.3)
serve_lacks rows none (ExploreFiles options fail_on page document streams) names =
    differ (codes "explore") (codes "serve") refl names.0
serve_lacks rows none (TestRuns options wishes format runs) names =
    differ (codes "test") (codes "serve") refl names.0
serve_lacks rows none (InferDocument streams) names =
    differ (codes "infer") (codes "serve") refl names.0
serve_lacks rows none (ReduceRun options document streams folder) names =
    differ (codes "reduce") (codes "serve") refl names.0
serve_lacks rows none (JudgeLines options fail_on in_bundles) names =
    differ (codes "batch") (codes "serve") refl names.0
serve_lacks rows none (BundleRuns runs) names =
    differ (codes "bundle") (codes "serve") refl names.0
serve_lacks rows none MergeLines names = differ (codes "merge") (codes "serve") refl names
serve_lacks rows none JudgeInput names = names
serve_lacks rows none ShowHelp names = names
serve_lacks rows none ShowVersion names = names
serve_lacks rows none Unclear names = names

pub explore_lacks : (rows : List Row)
    → ((options : Options) (fail_on : List Condition) (page : PageOptions) (document : Text) (streams : List Text)
    → ¬ (NamesSession rows (codes "STREAM") document streams × NamesJudging rows options fail_on
    × NamesPage rows page))
    → (request : Request) → ¬ NamesBy (codes "explore") rows request
explore_lacks rows none (JudgeFiles options fail_on format document streams) names =
    differ (codes "judge") (codes "explore") refl names.0
explore_lacks rows none (CheckFiles options format document report streams) names =
    differ (codes "check") (codes "explore") refl names.0
explore_lacks rows none (DrawFiles options scope document files) names =
    differ (codes "draw") (codes "explore") refl names.0
explore_lacks rows none (ServeStreams options fail_on format document place port_file watchers wait keep) names =
    differ (codes "serve") (codes "explore") refl names.0
explore_lacks rows none (ExploreFiles options fail_on page document streams) names =
    none options fail_on page document streams (names.1, names.2, names.3)
explore_lacks rows none (TestRuns options wishes format runs) names =
    differ (codes "test") (codes "explore") refl names.0
explore_lacks rows none (InferDocument streams) names =
    differ (codes "infer") (codes "explore") refl names.0
explore_lacks rows none (ReduceRun options document streams folder) names =
    differ (codes "reduce") (codes "explore") refl names.0
explore_lacks rows none (JudgeLines options fail_on in_bundles) names =
    differ (codes "batch") (codes "explore") refl names.0
explore_lacks rows none (BundleRuns runs) names =
    differ (codes "bundle") (codes "explore") refl names.0
explore_lacks rows none MergeLines names = differ (codes "merge") (codes "explore") refl names
explore_lacks rows none JudgeInput names = names
explore_lacks rows none ShowHelp names = names
explore_lacks rows none ShowVersion names = names
explore_lacks rows none Unclear names = names

pub test_lacks : (rows : List Row)
    → ((options : Options) (wishes : List Condition) (format : Format) (runs : List Text)
    → ¬ NamesTest rows runs options wishes format)
    → (request : Request) → ¬ NamesBy (codes "test") rows request
test_lacks rows none (JudgeFiles options fail_on format document streams) names =
    differ (codes "judge") (codes "test") refl names.0
test_lacks rows none (CheckFiles options format document report streams) names =
    differ (codes "check") (codes "test") refl names.0
test_lacks rows none (DrawFiles options scope document files) names =
    differ (codes "draw") (codes "test") refl names.0
test_lacks rows none (ServeStreams options fail_on format document place port_file watchers wait keep) names =
    differ (codes "serve") (codes "test") refl names.0
test_lacks rows none (ExploreFiles options fail_on page document streams) names =
    differ (codes "explore") (codes "test") refl names.0
test_lacks rows none (TestRuns options wishes format runs) names =
    none options wishes format runs names.1
test_lacks rows none (InferDocument streams) names =
    differ (codes "infer") (codes "test") refl names.0
test_lacks rows none (ReduceRun options document streams folder) names =
    differ (codes "reduce") (codes "test") refl names.0
test_lacks rows none (JudgeLines options fail_on in_bundles) names =
    differ (codes "batch") (codes "test") refl names.0
test_lacks rows none (BundleRuns runs) names =
    differ (codes "bundle") (codes "test") refl names.0
test_lacks rows none MergeLines names = differ (codes "merge") (codes "test") refl names
test_lacks rows none JudgeInput names = names
test_lacks rows none ShowHelp names = names
test_lacks rows none ShowVersion names = names
test_lacks rows none Unclear names = names

pub infer_lacks : (rows : List Row) → ((streams : List Text) → ¬ (all_of (codes "STREAM") rows ≡ Some streams))
    → (request : Request) → ¬ NamesBy (codes "infer") rows request
infer_lacks rows none (JudgeFiles options fail_on format document streams) names =
    differ (codes "judge") (codes "infer") refl names.0
infer_lacks rows none (CheckFiles options format document report streams) names =
    differ (codes "check") (codes "infer") refl names.0
infer_lacks rows none (DrawFiles options scope document files) names =
    differ (codes "draw") (codes "infer") refl names.0
infer_lacks rows none (ServeStreams options fail_on format document place port_file watchers wait keep) names =
    differ (codes "serve") (codes "infer") refl names.0
infer_lacks rows none (ExploreFiles options fail_on page document streams) names =
    differ (codes "explore") (codes "infer") refl names.0
infer_lacks rows none (TestRuns options wishes format runs) names =
    differ (codes "test") (codes "infer") refl names.0
infer_lacks rows none (InferDocument streams) names = none streams names.1
infer_lacks rows none (ReduceRun options document streams folder) names =
    differ (codes "reduce") (codes "infer") refl names.0
infer_lacks rows none (JudgeLines options fail_on in_bundles) names =
    differ (codes "batch") (codes "infer") refl names.0
infer_lacks rows none (BundleRuns runs) names =
    differ (codes "bundle") (codes "infer") refl names.0
infer_lacks rows none MergeLines names = differ (codes "merge") (codes "infer") refl names
infer_lacks rows none JudgeInput names = names
infer_lacks rows none ShowHelp names = names
infer_lacks rows none ShowVersion names = names
infer_lacks rows none Unclear names = names

pub reduce_lacks : (rows : List Row)
    → ((options : Options) (document : Text) (streams : List Text) (folder : Text)
    → ¬ (NamesSession rows (codes "STREAM") document streams × NamesOptions rows options
    × (options.beyond_width ≡ false) × (first_of (codes "FOLDER") rows ≡ Some folder)))
    → (request : Request) → ¬ NamesBy (codes "reduce") rows request
reduce_lacks rows none (JudgeFiles options fail_on format document streams) names =
    differ (codes "judge") (codes "reduce") refl names.0
reduce_lacks rows none (CheckFiles options format document report streams) names =
    differ (codes "check") (codes "reduce") refl names.0
reduce_lacks rows none (DrawFiles options scope document files) names =
    differ (codes "draw") (codes "reduce") refl names.0
reduce_lacks rows none (ServeStreams options fail_on format document place port_file watchers wait keep) names =
    differ (codes "serve") (codes "reduce") refl names.0
reduce_lacks rows none (ExploreFiles options fail_on page document streams) names =
    differ (codes "explore") (codes "reduce") refl names.0
reduce_lacks rows none (TestRuns options wishes format runs) names =
    differ (codes "test") (codes "reduce") refl names.0
reduce_lacks rows none (InferDocument streams) names =
    differ (codes "infer") (codes "reduce") refl names.0
reduce_lacks rows none (ReduceRun options document streams folder) names =
    none options document streams folder (names.1, names.2, names.3, names.4)
reduce_lacks rows none (JudgeLines options fail_on in_bundles) names =
    differ (codes "batch") (codes "reduce") refl names.0
reduce_lacks rows none (BundleRuns runs) names =
    differ (codes "bundle") (codes "reduce") refl names.0
reduce_lacks rows none MergeLines names = differ (codes "merge") (codes "reduce") refl names
reduce_lacks rows none JudgeInput names = names
reduce_lacks rows none ShowHelp names = names
reduce_lacks rows none ShowVersion names = names
reduce_lacks rows none Unclear names = names

pub batch_lacks : (rows : List Row) → ((options : Options) (fail_on : List Condition)
    → ¬ (NamesJudging rows options fail_on × HasJobs rows))
    → (request : Request) → ¬ NamesBy (codes "batch") rows request
batch_lacks rows none (JudgeFiles options fail_on format document streams) names =
    differ (codes "judge") (codes "batch") refl names.0
batch_lacks rows none (CheckFiles options format document report streams) names =
    differ (codes "check") (codes "batch") refl names.0
batch_lacks rows none (DrawFiles options scope document files) names =
    differ (codes "draw") (codes "batch") refl names.0
batch_lacks rows none (ServeStreams options fail_on format document place port_file watchers wait keep) names =
    differ (codes "serve") (codes "batch") refl names.0
batch_lacks rows none (ExploreFiles options fail_on page document streams) names =
    differ (codes "explore") (codes "batch") refl names.0
batch_lacks rows none (TestRuns options wishes format runs) names =
    differ (codes "test") (codes "batch") refl names.0
batch_lacks rows none (InferDocument streams) names =
    differ (codes "infer") (codes "batch") refl names.0
batch_lacks rows none (ReduceRun options document streams folder) names =
    differ (codes "reduce") (codes "batch") refl names.0
batch_lacks rows none (JudgeLines options fail_on in_bundles) names =
    none options fail_on (names.1, names.2)
batch_lacks rows none (BundleRuns runs) names =
    differ (codes "bundle") (codes "batch") refl names.0
batch_lacks rows none MergeLines names = differ (codes "merge") (codes "batch") refl names
batch_lacks rows none JudgeInput names = names
batch_lacks rows none ShowHelp names = names
batch_lacks rows none ShowVersion names = names
batch_lacks rows none Unclear names = names

pub bundle_lacks : (rows : List Row) → ((runs : List Text) → ¬ (all_of (codes "RUN") rows ≡ Some runs))
    → (request : Request) → ¬ NamesBy (codes "bundle") rows request
bundle_lacks rows none (JudgeFiles options fail_on format document streams) names =
    differ (codes "judge") (codes "bundle") refl names.0
bundle_lacks rows none (CheckFiles options format document report streams) names =
    differ (codes "check") (codes "bundle") refl names.0
bundle_lacks rows none (DrawFiles options scope document files) names =
    differ (codes "draw") (codes "bundle") refl names.0
bundle_lacks rows none (ServeStreams options fail_on format document place port_file watchers wait keep) names =
    differ (codes "serve") (codes "bundle") refl names.0
bundle_lacks rows none (ExploreFiles options fail_on page document streams) names =
    differ (codes "explore") (codes "bundle") refl names.0
bundle_lacks rows none (TestRuns options wishes format runs) names =
    differ (codes "test") (codes "bundle") refl names.0
bundle_lacks rows none (InferDocument streams) names =
    differ (codes "infer") (codes "bundle") refl names.0
bundle_lacks rows none (ReduceRun options document streams folder) names =
    differ (codes "reduce") (codes "bundle") refl names.0
bundle_lacks rows none (JudgeLines options fail_on in_bundles) names =
    differ (codes "batch") (codes "bundle") refl names.0
bundle_lacks rows none (BundleRuns runs) names = none runs names.1
bundle_lacks rows none MergeLines names = differ (codes "merge") (codes "bundle") refl names
bundle_lacks rows none JudgeInput names = names
bundle_lacks rows none ShowHelp names = names
bundle_lacks rows none ShowVersion names = names
bundle_lacks rows none Unclear names = names

-- a word that is no command's names nothing
pub no_command : (command : Text) (rows : List Row) → ¬ (command ≡ codes "judge") → ¬ (command ≡ codes "check")
    → ¬ (command ≡ codes "draw") → ¬ (command ≡ codes "serve") → ¬ (command ≡ codes "explore")
    → ¬ (command ≡ codes "test") → ¬ (command ≡ codes "infer") → ¬ (command ≡ codes "reduce")
    → ¬ (command ≡ codes "batch") → ¬ (command ≡ codes "bundle") → ¬ (command ≡ codes "merge")
    → (request : Request) → ¬ NamesBy command rows request
no_command command rows a b c d e f g h i j k (JudgeFiles options fail_on format document streams) names =
    a names.0
no_command command rows a b c d e f g h i j k (CheckFiles options format document report streams) names =
    b names.0
no_command command rows a b c d e f g h i j k (DrawFiles options scope document files) names =
    c names.0
no_command command rows a b c d e f g h i j k
    (ServeStreams options fail_on format document place port_file watchers wait keep) names = d names.0
no_command command rows a b c d e f g h i j k (ExploreFiles options fail_on page document streams) names =
    e names.0
no_command command rows a b c d e f g h i j k (TestRuns options wishes format runs) names =
    f names.0
no_command command rows a b c d e f g h i j k (InferDocument streams) names =
    g names.0
no_command command rows a b c d e f g h i j k (ReduceRun options document streams folder) names =
    h names.0
no_command command rows a b c d e f g h i j k (JudgeLines options fail_on in_bundles) names =
    i names.0
no_command command rows a b c d e f g h i j k (BundleRuns runs) names =
    j names.0
no_command command rows a b c d e f g h i j k MergeLines names = k names
no_command command rows a b c d e f g h i j k JudgeInput names = names
no_command command rows a b c d e f g h i j k ShowHelp names = names
no_command command rows a b c d e f g h i j k ShowVersion names = names
no_command command rows a b c d e f g h i j k Unclear names = names

-- a judgement of files that isn't found
pub no_judgement : (rows : List Row) (found : Option Judgement) → FindsJudgement rows found → found ≡ None
    → (document : Text) (streams : List Text) (options : Options) (fail_on : List Condition)
    → ¬ NamesJudgement rows document streams options fail_on
no_judgement rows None none is = none
no_judgement rows (Some judgement) some is = cc

-- a server that isn't found
pub no_service : (rows : List Row) (found : Option Service) → FindsService rows found → found ≡ None
    → (document : Text) (place : Place) (port_file : Option Text) (watchers : ℕ) (wait : Option ℕ)
    (keep : Option Text) → NamesService rows document place port_file watchers wait keep → ¬ HasWorkers rows
no_service rows None none is = none
no_service rows (Some service) some is = cc
