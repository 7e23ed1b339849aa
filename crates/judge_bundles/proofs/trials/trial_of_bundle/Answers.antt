-- What gives what comes of what was read gives what comes of the bundle.
use Rattle.std.proofs.Common.{inr, string_bytes}
use Rattle.std.proofs.lemmas.Result.{IfOk-weaker}
use Rattle.judge_runs.specs.Views.{wishes_view}
use Rattle.pd_spec.specs.Views.{options_view}
use Rattle.judge_bundles.specs.BundleRuns.{IsOutcomeOfBundle, IsOutcomeOfRead}
use Rattle.judge_bundles.proofs.BundleTrials.{weaker_trial}
use Rattle.judge_bundles.proofs.trials.trial_of_bundle.Goals as goal

pub returns-in-Ok-clause-trial : goal.returns-in-Ok-clause-trial
returns-in-Ok-clause-trial g c =
    let options = options_view c.args.options.now in
    let wishes = wishes_view c.args.wishes.now in
    let input = g.R.ByteSource.left c.args.reader in
    IfOk-weaker c.trial_of_contents.result _ _
    (λ trial given sound. weaker_trial options (IsOutcomeOfRead options wishes input)
    (IsOutcomeOfBundle options wishes (string_bytes c.args.name) input) (λ outcome is. inr is) trial
    (given options wishes input sound c.in-Ok.ensures.contents)) c.trial_of_contents.ensures.trial
