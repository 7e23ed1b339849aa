-- The variable of the term has come, and no other.
use Rattle.judge_orders.proofs.named.name_term.Goals as goal

pub returns-in-Variable-clause-just : goal.returns-in-Variable-clause-just
returns-in-Variable-clause-just c = rw c.in-Variable.is c.name_var.ensures.just

pub returns-in-Times-clause-just : goal.returns-in-Times-clause-just
returns-in-Times-clause-just c = rw c.in-Times.is c.name_var-in-Times.ensures.just
