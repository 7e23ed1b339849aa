-- What is known of the session, or of the bundle, is known of the job.
use Rattle.judge_runs.specs.Views.{wishes_view}
use Rattle.pd_spec.specs.Views.{options_view}
use Rattle.app_test.specs.declared.job.Job.TheVariants as jobs
use Rattle.app_test.proofs.JobResults.{job_result}
use Rattle.app_test.proofs.job.trial_of_job.Goals as goal

pub returns-in-Judge : goal.returns-in-Judge
returns-in-Judge g c =
    rw c.in-Judge.is (job_result g.R.ByteSource.left (options_view c.args.options.now)
    (wishes_view c.args.wishes.now) c.args.orders.now
    (jobs.Judge c.in-Judge.document c.in-Judge.streams) c.session_trial.result c.session_trial.ensures.trial
    c.session_trial.ensures.err)

pub returns-in-Bundle : goal.returns-in-Bundle
returns-in-Bundle g c =
    rw c.in-Bundle.is (job_result g.R.ByteSource.left (options_view c.args.options.now)
    (wishes_view c.args.wishes.now) c.args.orders.now
    (jobs.Bundle c.in-Bundle.name c.in-Bundle.file) c.trial_of_bundle.result c.trial_of_bundle.ensures.trial
    c.trial_of_bundle.ensures.err)
