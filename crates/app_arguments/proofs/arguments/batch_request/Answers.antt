-- Without a number of workers, or of sessions side by side, nothing is named.
use Rattle.std.proofs.Common.{codes}
use Rattle.app_arguments.specs.Views.{rows_in}
use Rattle.app_arguments.proofs.Numbers.{no_threads}
use Rattle.app_arguments.proofs.Requests.{batch_lacks}
use Rattle.app_arguments.proofs.arguments.batch_request.Goals as goal

pub returns-in_default : goal.returns-in_default
returns-in_default c =
    let rows = rows_in c.args.matches.now in
    batch_lacks rows (λ options fail_on names.
    no_threads rows (codes "WORKERS") c.workers_of.result c.workers_of.ensures c.in_default.is names.0.2)

pub returns-in_default-jobs_of : goal.returns-in_default-jobs_of
returns-in_default-jobs_of c =
    let rows = rows_in c.args.matches.now in
    batch_lacks rows (λ options fail_on names.
    no_threads rows (codes "JOBS") c.jobs_of.result c.jobs_of.ensures c.in_default-jobs_of.is names.1)
