-- Without a number there is none.
use Rattle.app_arguments.specs.Views.{rows_in}
use Rattle.app_arguments.proofs.Numbers.{no_number}
use Rattle.app_arguments.proofs.arguments.threads_of.Goals as goal

pub returns-in_default : goal.returns-in_default
returns-in_default c n names =
    no_number (rows_in c.args.matches.now) c.args.id.now c.number_of.result c.number_of.ensures c.in_default.is n
    names.0
