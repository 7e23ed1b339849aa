-- What is known of a bundle's run gives what comes of the bundle.
use Rattle.def_format.specs.Documents.{Options}
use Rattle.judge_runs.specs.Runs.{Outcome, Reported}
use Rattle.judge_runs.specs.Views.{outcome_view}
use Rattle.judge_shared.specs.Trials.{GivesOutcome}
use Rattle.judge_shared.specs.declared.trial.Trial.{Trial}
use Rattle.judge_shared.specs.declared.trial.Trial.TheVariants as trials

-- what gives outcomes of which P holds gives outcomes of which Q holds, if that follows
pub weaker_trial : (options : Options) (P Q : Outcome → Type 0) → ((outcome : Outcome) → P outcome → Q outcome)
    → (trial : Trial) → GivesOutcome options P trial → GivesOutcome options Q trial
weaker_trial options P Q f (trials.Known outcome) gives = f (outcome_view outcome) gives
weaker_trial options P Q f (trials.Judged bytes found) gives =
    (gives.0, gives.1, gives.2, gives.3, λ report is. f (Reported report) (gives.4 report is))
