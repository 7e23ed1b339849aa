-- Without a number of workers there is no judgement.
use Rattle.std.proofs.Common.{codes}
use Rattle.app_arguments.specs.Views.{rows_in}
use Rattle.app_arguments.proofs.Numbers.{no_threads}
use Rattle.app_arguments.proofs.arguments.judgement_of.Goals as goal

pub returns-in_default : goal.returns-in_default
returns-in_default c document streams options fail_on names =
    no_threads (rows_in c.args.matches.now) (codes "WORKERS") c.workers_of.result c.workers_of.ensures c.in_default.is
    names.1.2
