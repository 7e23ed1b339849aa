-- What comes of runs whose files are open.
use Rattle.std.specs.Prelude.{◌≡◌, ⊤, ℕ, Bool, false, All, List, [], ◌∷◌, map, string_bytes, Result, Ok, Err}
use Rattle.def_format.specs.Documents.{Options, inquiry_of}
use Rattle.def_judgement.specs.Writes.{Source}
use Rattle.app_arguments.specs.Statuses.{File}
use Rattle.judge_bundles.specs.BundleRuns.{IsOutcomeOfBundle}
use Rattle.judge_runs.specs.Runs.{Outcome, Run}
use Rattle.judge_runs.specs.Views.{outcome_view}
use Rattle.judge_runs.specs.Wishes.{Condition}
use Rattle.judge_runs.specs.declared.outcome.Outcome as outcomes
use Rattle.judge_session.specs.declared.fault.EngineFault.{EngineFault}
use Rattle.judge_session.specs.declared.fault.EngineFault.TheVariants.{Memory}
use Rattle.judge_shared.specs.Sharing.{AreSound}
use Rattle.judge_shared.specs.Trials.{GivesOutcome, IsReportedOf}
use Rattle.judge_shared.specs.declared.orders.Orders.{Orders}
use Rattle.judge_shared.specs.declared.trial.Trial.{Trial}
use Rattle.app_test.specs.Tests.{IsOutcome, IsOutcomeOfFile, IsOutcomeOfFolder, IsReadOutcome}
use Rattle.app_test.specs.declared.job.Job.{Job}
use Rattle.app_test.specs.declared.job.Job.TheVariants as jobs

-- nothing is read yet of the streams, or of the bundle
abbrev pub IsReady : {R : Type 0} (has_ended : R → Bool) → Job R → Type 0
IsReady has_ended (jobs.Done outcome) = ⊤
IsReady has_ended (jobs.Judge document streams) = All (λ stream. has_ended stream ≡ false) streams.items
IsReady has_ended (jobs.Bundle name file) = has_ended file ≡ false

-- What comes of it: what is known already, or the report of the document, with what is asked, and of the streams, or
-- what comes of the bundle.
abbrev pub IsOutcomeOfJob : {R : Type 0} (left : R → Source) (options : Options) (wishes : List Condition) → Job R
    → Outcome → Type 0
IsOutcomeOfJob left options wishes (jobs.Done known) outcome = outcome ≡ outcome_view known
IsOutcomeOfJob left options wishes (jobs.Judge document streams) outcome =
    IsReportedOf (inquiry_of options document.items) (map left streams.items) outcome
IsOutcomeOfJob left options wishes (jobs.Bundle name file) outcome =
    IsOutcomeOfBundle options wishes (string_bytes name) (left file) outcome

-- A trial gives it, if the orders of the runs before are right; or memory ran out.
abbrev pub IsResultOfJob : {R : Type 0} (left : R → Source) (options : Options) (wishes : List Condition)
    (orders : Orders) → Job R → Result Trial EngineFault → Type 0
IsResultOfJob left options wishes orders job (Ok trial) =
    AreSound options orders → GivesOutcome options (IsOutcomeOfJob left options wishes job) trial
IsResultOfJob left options wishes orders job (Err fault) = fault ≡ Memory

-- the same of the outcome, once the runs before are known
abbrev pub IsOutcomeResult : {R : Type 0} (left : R → Source) (options : Options) (wishes : List Condition) → Job R
    → Result outcomes.Outcome EngineFault → Type 0
IsOutcomeResult left options wishes job (Ok outcome) = IsOutcomeOfJob left options wishes job (outcome_view outcome)
IsOutcomeResult left options wishes job (Err fault) = fault ≡ Memory

-- whatever comes of the job comes of the run of this name
abbrev pub IsJobOf : {R : Type 0} (left : R → Source) (files : List ℕ → File) (options : Options)
    (wishes : List Condition) (name : List ℕ) → Job R → Type 0
IsJobOf left files options wishes name job =
    (outcome : Outcome) → IsOutcomeOfJob left options wishes job outcome → IsOutcome files options wishes name outcome

-- whatever comes of the job comes of the run in this folder
abbrev pub IsFolderJob : {R : Type 0} (left : R → Source) (files : List ℕ → File) (options : Options)
    (wishes : List Condition) (folder : List ℕ) → Job R → Type 0
IsFolderJob left files options wishes folder job =
    (outcome : Outcome) → IsOutcomeOfJob left options wishes job outcome
    → IsOutcomeOfFolder files options wishes folder outcome

-- whatever comes of the job comes of the run that is the bundle in the file of this name
abbrev pub IsBundleJob : {R : Type 0} (left : R → Source) (files : List ℕ → File) (options : Options)
    (wishes : List Condition) (name : List ℕ) → Job R → Type 0
IsBundleJob left files options wishes name job =
    (outcome : Outcome) → IsOutcomeOfJob left options wishes job outcome
    → IsOutcomeOfFile files options wishes name outcome

-- whatever comes of the job comes of the run by these bytes of its document
abbrev pub IsReadJob : {R : Type 0} (left : R → Source) (files : List ℕ → File) (options : Options)
    (wishes : List Condition) (folder document : List ℕ) → Job R → Type 0
IsReadJob left files options wishes folder document job =
    (outcome : Outcome) → IsOutcomeOfJob left options wishes job outcome
    → IsReadOutcome files wishes folder (inquiry_of options document) outcome

-- ---- the runs

-- the run in this folder, of which this comes
abbrev pub run_of : (folder : List ℕ) → outcomes.Outcome → Run
run_of folder outcome = record { folder = folder; outcome = outcome_view outcome }

-- the runs in these folders by their results, up to the first of which nothing is known
abbrev pub runs_of : (folders : List (List ℕ)) → List (Result outcomes.Outcome EngineFault) → List Run
runs_of (folder ∷ folders) (Ok outcome ∷ results) = run_of folder outcome ∷ runs_of folders results
runs_of _ _ = []
