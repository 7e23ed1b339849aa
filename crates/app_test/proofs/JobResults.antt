-- What comes of jobs comes of the runs in their folders.
use Rattle.std.proofs.Common.{◌≡◌, ℕ, suc, ◌+◌, ◌<◌, List, [], ◌∷◌, ◌++◌, length, map, take, Option, Ok, Err, refl, ap, subst, ◌∙◌, arith}
use Rattle.std.specs.Prelude.{All, Bool, IfOk, IsOkUnless, OnErr, Result}
use Rattle.std.proofs.lemmas.List.Elements.{All-cons}
use Rattle.std.proofs.lemmas.Slice.Zip.{AllZip-long}
use Rattle.std.specs.List.{AllZip, slice_index_or}
use Rattle.std.proofs.Math.Seq.{take-suc}
use Rattle.std.proofs.lemmas.List.{get_or-map, length-map, take_all}
use Rattle.def_format.specs.Documents.{Options}
use Rattle.def_judgement.specs.Writes.{Source}
use Rattle.app_arguments.specs.Formats.{Format}
use Rattle.app_arguments.specs.Statuses.{File}
use Rattle.judge_runs.specs.Views.{outcome_view}
use Rattle.judge_runs.specs.Wishes.{Condition}
use Rattle.judge_runs.specs.declared.outcome.Outcome as outcomes
use Rattle.app_test.specs.declared.records.Records.{Records}
use Rattle.judge_session.specs.declared.fault.EngineFault.{EngineFault}
use Rattle.judge_session.specs.declared.fault.EngineFault.TheVariants.{Memory}
use Rattle.judge_shared.specs.Sharing.{AreSound}
use Rattle.judge_shared.specs.Trials.{GivesOutcome, IsFinalResult, IsTrialResult}
use Rattle.judge_shared.specs.declared.orders.Orders.{Orders}
use Rattle.judge_shared.specs.declared.trial.Trial.{Trial}
use Rattle.judge_shared.proofs.TrialOutcomes.{final_given, some_trial}
use Rattle.app_test.specs.Jobs.{IsJobOf, IsOutcomeOfJob, IsOutcomeResult, IsResultOfJob, runs_of}
use Rattle.app_test.specs.TestedRuns.{LeavesMore, LeavesRuns, TestsMore, WritesRuns}
use Rattle.app_test.specs.Tests.{IsRunIn}
use Rattle.app_test.specs.declared.job.Job.{Job}
use Rattle.app_test.proofs.RunLines.{no_line}

-- one more of the things that f makes
pub take_next : {A B : Type 0} (f : A → B) (xs : List A) (i : ℕ) (d : A) → i < length xs
    → take (i + 1) (map f xs) ≡ take i (map f xs) ++ f (slice_index_or xs i d) ∷ []
take_next f xs i d lt =
    ap (λ n. take n (map f xs)) (let next : i + 1 ≡ suc i = omega arith in next)
    ∙ (take-suc (map f xs) i (f d) (omega (arith, length-map xs f, lt))
    ∙ ap (λ y. take i (map f xs) ++ y ∷ []) (get_or-map f xs i d (f d) lt))

-- what holds at each place of two lists holds place by place
zip_by_place : {A B : Type 0} (R : A → B → Type 0) (xs : List A) (ys : List B) → length ys ≡ length xs
    → ((i : ℕ) (d : A) (e : B) → i < length xs → R (slice_index_or xs i d) (slice_index_or ys i e)) → AllZip R xs ys
zip_by_place R [] [] same at = tt
zip_by_place R [] (y ∷ ys) same at = absurd (omega (arith, same))
zip_by_place R (x ∷ xs) [] same at = absurd (omega (arith, same))
zip_by_place R (x ∷ xs) (y ∷ ys) same at = (
  at 0 x y (omega arith),
  zip_by_place R xs ys (omega (arith, same)) (λ i d e lt. at (suc i) d e (omega (arith, lt))),
)

module _ {R : Type 0} (left : R → Source) (options : Options) (wishes : List Condition) where
  -- what is known of a job, unless memory ran out
  pub job_result : (orders : Orders) (job : Job R) (result : Result Trial EngineFault)
      → IfOk result (λ trial. AreSound options orders
      → GivesOutcome options (IsOutcomeOfJob left options wishes job) trial) → IsOkUnless result Memory
      → IsResultOfJob left options wishes orders job result
  job_result orders job (Ok trial) gives err = gives
  job_result orders job (Err fault) gives err = err

  -- the results of jobs, by their places
  pub results_of_jobs : (orders : Orders) (jobs : List (Job R)) (results : List (Result Trial EngineFault))
      → length results ≡ length jobs
      → ((i : ℕ) (job : Job R) (one : Result Trial EngineFault) → i < length jobs
      → IsResultOfJob left options wishes orders (slice_index_or jobs i job) (slice_index_or results i one))
      → AllZip (IsResultOfJob left options wishes orders) jobs results
  results_of_jobs orders jobs results same at =
      zip_by_place (IsResultOfJob left options wishes orders) jobs results same at

  -- each is the trial of some run
  trial_result : (orders : Orders) (job : Job R) (result : Result Trial EngineFault) → AreSound options orders
      → IsResultOfJob left options wishes orders job result → IsTrialResult options result
  trial_result orders job (Ok trial) sound is =
      some_trial options (IsOutcomeOfJob left options wishes job) trial (is sound)
  trial_result orders job (Err fault) sound is = tt

  pub trial_results : (orders : Orders) (jobs : List (Job R)) (results : List (Result Trial EngineFault))
      → AreSound options orders → AllZip (IsResultOfJob left options wishes orders) jobs results
      → All (IsTrialResult options) results
  trial_results orders [] [] sound are = λ k d lt. absurd (omega (arith, lt))
  trial_results orders [] (result ∷ results) sound are = absurd are
  trial_results orders (job ∷ jobs) [] sound are = absurd are
  trial_results orders (job ∷ jobs) (result ∷ results) sound are =
      All-cons (IsTrialResult options) result results (trial_result orders job result sound are.0)
      (trial_results orders jobs results sound are.1)

  -- what comes of a trial once the runs before are known
  outcome_result : (orders : Orders) (job : Job R) (result : Result Trial EngineFault)
      (outcome : Result outcomes.Outcome EngineFault) → AreSound options orders
      → IsResultOfJob left options wishes orders job result → IsFinalResult options result outcome
      → IsOutcomeResult left options wishes job outcome
  outcome_result orders job (Ok trial) (Ok outcome) sound is final =
      final_given options (IsOutcomeOfJob left options wishes job) trial outcome (is sound) final
  outcome_result orders job (Ok trial) (Err other) sound is final = absurd final
  outcome_result orders job (Err fault) (Ok outcome) sound is final = absurd final
  outcome_result orders job (Err fault) (Err other) sound is final = final ∙ is

  pub outcome_results : (orders : Orders) (jobs : List (Job R)) (results : List (Result Trial EngineFault))
      (found : List (Result outcomes.Outcome EngineFault)) → AreSound options orders
      → AllZip (IsResultOfJob left options wishes orders) jobs results
      → AllZip (IsFinalResult options) results found → AllZip (IsOutcomeResult left options wishes) jobs found
  outcome_results orders [] [] [] sound are finals = tt
  outcome_results orders [] [] (outcome ∷ found) sound are finals = absurd finals
  outcome_results orders [] (result ∷ results) found sound are finals = absurd are
  outcome_results orders (job ∷ jobs) [] found sound are finals = absurd are
  outcome_results orders (job ∷ jobs) (result ∷ results) [] sound are finals = absurd finals
  outcome_results orders (job ∷ jobs) (result ∷ results) (outcome ∷ found) sound are finals = (
    outcome_result orders job result outcome sound are.0 finals.0,
    outcome_results orders jobs results found sound are.1 finals.1,
  )

  module _ (files : List ℕ → File) where
    -- the runs of which something is known are those in the first folders
    pub are_runs_of : (folders : List (List ℕ)) (jobs : List (Job R))
        (results : List (Result outcomes.Outcome EngineFault))
        → AllZip (IsJobOf left files options wishes) folders jobs
        → AllZip (IsOutcomeResult left options wishes) jobs results
        → AllZip (IsRunIn files options wishes) (take (length (runs_of folders results)) folders)
        (runs_of folders results)
    are_runs_of [] [] [] of_folders of_jobs = tt
    are_runs_of [] [] (result ∷ results) of_folders of_jobs = absurd of_jobs
    are_runs_of [] (job ∷ jobs) results of_folders of_jobs = absurd of_folders
    are_runs_of (folder ∷ folders) [] results of_folders of_jobs = absurd of_folders
    are_runs_of (folder ∷ folders) (job ∷ jobs) [] of_folders of_jobs = absurd of_jobs
    are_runs_of (folder ∷ folders) (job ∷ jobs) (Ok outcome ∷ results) of_folders of_jobs = (
      (refl, of_folders.0 (outcome_view outcome) of_jobs.0),
      are_runs_of folders jobs results of_folders.1 of_jobs.1,
    )
    are_runs_of (folder ∷ folders) (job ∷ jobs) (Err fault ∷ results) of_folders of_jobs = tt

-- ---- what is found of them

module _ {R : Type 0} (left : R → Source) (files : List ℕ → File) (options : Options) (wishes : List Condition)
    (folders : List (List ℕ)) (jobs : List (Job R)) (results : List (Result Trial EngineFault))
    (found : List (Result outcomes.Outcome EngineFault)) (before after : Orders)
    (sound : AreSound options before) (of_folders : AllZip (IsJobOf left files options wishes) folders jobs)
    (of_jobs : AllZip (IsResultOfJob left options wishes before) jobs results)
    (finals : AreSound options before → All (IsTrialResult options) results
    → AllZip (IsFinalResult options) results found × AreSound options after) where
  both : AllZip (IsFinalResult options) results found × AreSound options after
  both = finals sound (trial_results left options wishes before jobs results sound of_jobs)

  -- the runs in the first folders are found
  pub found_runs : AllZip (IsRunIn files options wishes) (take (length (runs_of folders found)) folders)
      (runs_of folders found)
  found_runs =
      are_runs_of left options wishes files folders jobs found of_folders
      (outcome_results left options wishes before jobs results found sound of_jobs both.0)

  -- and their orders
  pub found_sound : AreSound options after
  found_sound = both.1

  -- in each folder one
  pub found_all : length found ≡ length folders
  found_all =
      omega (
        arith,
        AllZip-long (IsJobOf left files options wishes) folders jobs of_folders,
        AllZip-long (IsResultOfJob left options wishes before) jobs results of_jobs,
        AllZip-long (IsFinalResult options) results found both.0,
      )

-- ---- some runs that are tested

-- nothing is written
pub nothing_more : (files : List ℕ → File) (options : Options) (wishes : List Condition) (format : Format)
    (folders : List (List ℕ)) (old : Option (List ℕ)) → LeavesMore files options wishes format folders old old
nothing_more files options wishes format folders old =
    record { count = 0; runs = []; are_runs = tt; left = no_line format wishes [] old }

module _ {V : Type 0} (files : List ℕ → File) (options : Options) (wishes : List Condition)
    (format : Format) (folders : List (List ℕ)) (results : List (Result outcomes.Outcome EngineFault))
    (old new : Option (List ℕ))
    (are : AllZip (IsRunIn files options wishes) (take (length (runs_of folders results)) folders)
    (runs_of folders results)) (result : Result V EngineFault) where
  -- the lines of all are written
  pub tests_more : (is_wanted : Bool) (before after : Records) (names : V → List (List ℕ)) (count : ℕ)
      → count ≡ length folders → IfOk result (λ _. length (runs_of folders results) ≡ count)
      → IfOk result (λ v. WritesRuns format wishes is_wanted (runs_of folders results) before after [] (names v) old
      new)
      → IfOk result (λ v. TestsMore files options wishes format is_wanted folders before after (names v) old new)
  tests_more is_wanted before after names count all whole writes = go result whole writes
    where
      go : (result : Result V EngineFault) → IfOk result (λ _. length (runs_of folders results) ≡ count)
          → IfOk result
          (λ v. WritesRuns format wishes is_wanted (runs_of folders results) before after [] (names v) old new)
          → IfOk result (λ v. TestsMore files options wishes format is_wanted folders before after (names v) old new)
      go (Ok v) whole writes = record {
        runs = runs_of folders results;
        are_runs = subst
            (λ (some : List (List ℕ)). AllZip (IsRunIn files options wishes) some (runs_of folders results))
            (take_all (length (runs_of folders results)) folders (omega (arith, whole, all))) are;
        writes = writes;
      }
      go (Err fault) whole writes = tt

  -- a prefix of them is
  pub leaves_more : OnErr result (LeavesRuns format wishes (runs_of folders results) old new)
      → OnErr result (LeavesMore files options wishes format folders old new)
  leaves_more left = go result left
    where
      go : (result : Result V EngineFault) → OnErr result (LeavesRuns format wishes (runs_of folders results) old new)
          → OnErr result (LeavesMore files options wishes format folders old new)
      go (Ok v) left = tt
      go (Err fault) left = record {
        count = length (runs_of folders results);
        runs = runs_of folders results;
        are_runs = are;
        left = left;
      }
