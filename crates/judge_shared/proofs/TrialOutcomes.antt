-- What a trial gives is of some run, and what comes of it is an outcome of which that holds.
use Rattle.std.proofs.Common.{subst, sym}
use Rattle.def_format.specs.Documents.{Options}
use Rattle.judge_runs.specs.Runs as runs
use Rattle.judge_runs.specs.Views.{outcome_view}
use Rattle.judge_runs.specs.declared.outcome.Outcome.{Outcome}
use Rattle.judge_shared.specs.Trials.{GivesOutcome, IsFinal, IsTrial}
use Rattle.judge_shared.specs.declared.trial.Trial.{Trial}
use Rattle.judge_shared.specs.declared.trial.Trial.TheVariants as trials

module _ (options : Options) (IsOutcome : runs.Outcome → Type 0) where
  pub some_trial : (trial : Trial) → GivesOutcome options IsOutcome trial → IsTrial options trial
  some_trial (trials.Known known) gives = tt
  some_trial (trials.Judged bytes found) gives = (gives.0, gives.1, gives.2, gives.3)

  pub final_given : (trial : Trial) (outcome : Outcome) → GivesOutcome options IsOutcome trial
      → IsFinal options trial outcome → IsOutcome (outcome_view outcome)
  final_given (trials.Known known) outcome gives is = subst (λ (o : Outcome). IsOutcome (outcome_view o)) (sym is) gives
  final_given (trials.Judged bytes found) outcome gives is =
      let report : _ = is gives.0 gives.1 gives.2 gives.3 in
      subst IsOutcome (sym report.1) (gives.4 report.0 report.2)
