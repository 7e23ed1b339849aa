-- Whether the end line or a fault has come.
use Rattle.def_format.specs.Readings.{by_end_line, by_fault}
use Rattle.pd_events.proofs.progress.Phase.is_closed.Goals as goal

pub returns-in-Ended-clause-yes : goal.returns-in-Ended-clause-yes
returns-in-Ended-clause-yes c = rw c.in-Ended.is by_end_line

pub returns-in-Faulted-clause-yes : goal.returns-in-Faulted-clause-yes
returns-in-Faulted-clause-yes c = rw c.in-Faulted.is by_fault
