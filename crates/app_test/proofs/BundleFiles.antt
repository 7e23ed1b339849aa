-- What comes of a bundle by its reader comes of it by its file.
use Rattle.std.proofs.Common.{◌≡◌, ℕ, Bool, List, true, false, Ok, Err, inl, inr, sym, subst}
use Rattle.std.specs.Bool.{OnFalse, OnTrue}
use Rattle.std.specs.Prelude.{◌⊎◌, IfOk, Result}
use Rattle.def_format.specs.Documents.{Options}
use Rattle.def_judgement.specs.Writes.{IsBrokenOff, IsTooLong, Source}
use Rattle.app_arguments.specs.Statuses.{File}
use Rattle.app_host.specs.FileSources.{Knows}
use Rattle.app_host.proofs.FilesRead.{of_known_bytes, of_known_fate, whole_of_file}
use Rattle.judge_bundles.specs.BundleRuns.{IsBundleName, IsOutcomeOfBundle, OfBundle}
use Rattle.judge_runs.specs.Runs.{Outcome, Unread}
use Rattle.judge_runs.specs.Wishes.{Condition}
use Rattle.judge_session.specs.declared.fault.EngineFault.{EngineFault}
use Rattle.app_test.specs.Jobs.{IsBundleJob, IsFolderJob, IsJobOf}
use Rattle.app_test.specs.Tests.{IsOutcomeOfFile}
use Rattle.app_test.specs.declared.job.Job.{Job}

-- ---- a file, of which a reader has what is known

module _ (file left : Source) (knows : Knows file left) where
  broken_of_file : IsBrokenOff left → IsBrokenOff file
  broken_of_file broken = record {
    may = λ sure. broken.may (of_known_fate file left false knows sure);
    all = λ fails. of_known_bytes file left _ knows (broken.all (of_known_fate file left true knows fails));
  }

  unread_of_file : IsBrokenOff left ⊎ IsTooLong left → IsBrokenOff file ⊎ IsTooLong file
  unread_of_file (inl broken) = inl (broken_of_file broken)
  unread_of_file (inr long) = inr (of_known_bytes file left _ knows long)

  pub held_of_file : (P : (document : List ℕ) (streams : List (List ℕ)) → Type 0) → OfBundle left P → OfBundle file P
  held_of_file P held = record {
    bundle = held.bundle;
    is_given = whole_of_file file left held.bundle knows held.is_given;
    fits = held.fits;
    document = held.document;
    streams = held.streams;
    parts = held.parts;
    holds = held.holds;
  }

  outcome_of_file : (options : Options) (wishes : List Condition) (name : List ℕ) (outcome : Outcome)
      → IsOutcomeOfBundle options wishes name left outcome → IsOutcomeOfBundle options wishes name file outcome
  outcome_of_file options wishes name outcome (inl unread) = inl (unread.0, unread_of_file unread.1)
  outcome_of_file options wishes name outcome (inr held) = inr (held_of_file _ held)

-- ---- its job

module _ (files : List ℕ → File) (options : Options) (wishes : List Condition) (name path bytes : List ℕ)
    (same : path ≡ name) (lent : bytes ≡ path) (outcome : Outcome) where
  pub bundle_is_open : (left : Source) → Knows (files bytes).source left
      → IsOutcomeOfBundle options wishes path left outcome → IsOutcomeOfFile files options wishes name outcome
  bundle_is_open left knows given =
      subst (λ (n : List ℕ). IsOutcomeOfFile files options wishes n outcome) same
      (inr (outcome_of_file (files path).source left
      (subst (λ (b : List ℕ). Knows (files b).source left) lent knows) options wishes path outcome given))

  pub bundle_not_open : ((files bytes).opens ≡ true → ⊥) → outcome ≡ Unread path
      → IsOutcomeOfFile files options wishes name outcome
  bundle_not_open never is =
      subst (λ (n : List ℕ). IsOutcomeOfFile files options wishes n outcome) same
      (inl (is, λ opens. never (subst (λ (b : List ℕ). (files b).opens ≡ true) (sym lent) opens)))

module _ {R : Type 0} (left : R → Source) (files : List ℕ → File) (options : Options) (wishes : List Condition)
    (name : List ℕ) (found : Bool) where
  pub job_of_bundle : (result : Result (Job R) EngineFault) → found ≡ true → OnTrue found (IsBundleName name)
      → IfOk result (λ (job : Job R). (asked : Options) (wished : List Condition)
      → IsBundleJob left files asked wished name job)
      → IfOk result (IsJobOf left files options wishes name)
  job_of_bundle (Ok job) holds named is = λ outcome given. record {
    of_bundle = λ _. is options wishes outcome given;
    of_folder = λ not. absurd (not (subst (λ (b : Bool). OnTrue b (IsBundleName name)) holds named));
  }
  job_of_bundle (Err fault) holds named is = tt

  pub job_of_folder : (result : Result (Job R) EngineFault) → found ≡ false
      → OnFalse found (¬ IsBundleName name) → IfOk result (IsFolderJob left files options wishes name)
      → IfOk result (IsJobOf left files options wishes name)
  job_of_folder (Ok job) fails unnamed is = λ outcome given. record {
    of_bundle = λ named. absurd (subst (λ (b : Bool). OnFalse b (¬ IsBundleName name)) fails unnamed named);
    of_folder = λ _. is outcome given;
  }
  job_of_folder (Err fault) fails unnamed is = tt
