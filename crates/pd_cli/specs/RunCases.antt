-- What a run of the program leaves, with a definition for each command: the form in which each command's own function
-- says it. `RunsAs` says the same of all commands by one rule.
use Rattle.std.specs.Prelude.{◌≡◌, ◌⊎◌, ◌∷◌, [], ℕ, Bool, List, Option, map}
use Rattle.std.specs.Io.KnownBytes.{Keeps}
use Rattle.clap.specs.Words.{Text}
use Rattle.def_judgement.specs.Writes.{Source}
use Rattle.app_arguments.specs.Arguments.{AsksFor}
use Rattle.app_arguments.specs.Statuses.{CheckFiles, DrawFiles, Ending, Ends, ExploreFiles, Failed, File, HelpLeaves, BundleRuns, InferDocument, JudgeFiles, JudgeInput, JudgeLines, JudgementLeaves, LeavesOf, MayBeUnread, MemoryFailure, MergeLines, MisuseLeaves, OfConnections, OfFinding, OfNamed, ReduceRun, Request, ServeStreams, ServiceMayFail, ShowHelp, ShowVersion, TestRuns, Unclear, UnreadClaim, VersionLeaves, sources_of}
use Rattle.app_draw.specs.ShownDrawings.{EndsShown}
use Rattle.app_explore.specs.Explorations.{AskedPage, ExplorationLeaves, FilesLeave}
use Rattle.app_host.specs.Formats.{IsFindingIn}
use Rattle.app_arguments.specs.Places.{Place}
use Rattle.app_serve.specs.Kept.{WritesFiles}
use Rattle.app_serve.specs.Served.{IsServed}
use Rattle.app_infer.specs.Inferences.{EndsInferred}
use Rattle.app_reduce.specs.Files.{RunLeaves}
use Rattle.app_results.specs.RunReports.{IsReportOf}
use Rattle.app_test.specs.Tests.{TestLeaves}
use Rattle.app_batch.specs.Batches.{BatchLeaves}
use Rattle.app_bundle.specs.Bundles.{BundleLeaves}
use Rattle.app_merge.specs.Merges.{EndsMerged}

-- a run with this exit status came to some end, by which this is left on the output and on the errors
abbrev pub By : (IsLeft : Ending → (old new : Option (List ℕ)) → Type 0) → (status : ℕ)
    (old new errors_old errors_new : Option (List ℕ)) → Type 0
By IsLeft status old new errors_old errors_new = Ends (λ ending. IsLeft ending old new) status errors_old errors_new

-- By what is asked for, where of the input and of the file of each name this is known, a connection to each place may
-- be such a source, and the network serves or may fail to.
abbrev pub Leaves : (input : Source) (files : List ℕ → File) (connections : Place → Source → Type 0)
    (network_serves : Bool) → Request → (status : ℕ) (old new errors_old errors_new : Option (List ℕ)) → Type 0
Leaves input files connections network_serves JudgeInput = By (JudgementLeaves input)
Leaves input files connections network_serves (JudgeFiles options fail_on format document streams) =
    By (FilesLeave files options fail_on format document streams)
Leaves input files connections network_serves (CheckFiles options format document report streams) =
    By (LeavesOf options (files document) (UnreadClaim files document report streams)
    (OfFinding (IsFindingIn format) (files report).source (sources_of (map files streams))))
Leaves input files connections network_serves (DrawFiles options scope document others) =
    EndsShown files options document others scope
Leaves input files connections network_serves
    (ServeStreams options fail_on format document place port_file watchers wait keep) =
    By (LeavesOf options (files document) (MayBeUnread (files document ∷ []) (files document ∷ []))
    (OfNamed fail_on (OfConnections (IsServed format) (connections place) (ServiceMayFail wait network_serves)
    (WritesFiles keep port_file) fail_on)))
Leaves input files connections network_serves (ExploreFiles options fail_on page document streams) =
    By (ExplorationLeaves files options fail_on (AskedPage page) document streams)
Leaves input files connections network_serves (TestRuns options wishes format runs) =
    By (TestLeaves files options wishes format (IsReportOf files options) runs)
Leaves input files connections network_serves (InferDocument streams) = EndsInferred files streams
Leaves input files connections network_serves (ReduceRun options document streams folder) =
    By (RunLeaves files options document streams)
Leaves input files connections network_serves (JudgeLines options fail_on in_bundles) =
    By (BatchLeaves input options fail_on in_bundles)
Leaves input files connections network_serves (BundleRuns runs) = By (BundleLeaves files runs)
Leaves input files connections network_serves MergeLines = EndsMerged input
Leaves input files connections network_serves ShowHelp = By HelpLeaves
Leaves input files connections network_serves ShowVersion = By VersionLeaves
Leaves input files connections network_serves Unclear = By MisuseLeaves

-- Memory runs out before it is known what is asked for, and nothing is written; or the run did what its arguments ask
-- for.
abbrev pub RunsAsAsked : List Text → (input : Source) (files : List ℕ → File) (connections : Place → Source → Type 0)
    (network_serves : Bool) (status : ℕ) (old new errors_old errors_new : Option (List ℕ)) → Type 0
RunsAsAsked arguments input files connections network_serves status old new errors_old errors_new =
    By (λ ending old new. (ending ≡ Failed MemoryFailure) × Keeps old new) status old new errors_old errors_new
    ⊎ (request : Request) × AsksFor arguments request
    × Leaves input files connections network_serves request status old new errors_old errors_new
