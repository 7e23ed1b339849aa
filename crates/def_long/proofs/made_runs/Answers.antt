-- The laws stand in `MadeOrder` and `MadeViews`.
use Rattle.def_long.proofs.MadeOrder.{messages_keep_order, messages_make_no_cycle}
use Rattle.def_long.proofs.MadeViews.{definitely_of_made_run, made_run_reduces, possibly_of_made_run}
use Rattle.def_long.proofs.made_runs.Goals as goal

pub returns-clause-order : goal.returns-clause-order
returns-clause-order c = messages_keep_order

pub returns-clause-no_cycle : goal.returns-clause-no_cycle
returns-clause-no_cycle c = messages_make_no_cycle

pub returns-clause-reduce : goal.returns-clause-reduce
returns-clause-reduce c = made_run_reduces

pub returns-clause-possibly : goal.returns-clause-possibly
returns-clause-possibly c = possibly_of_made_run

pub returns-clause-definitely : goal.returns-clause-definitely
returns-clause-definitely c = definitely_of_made_run
