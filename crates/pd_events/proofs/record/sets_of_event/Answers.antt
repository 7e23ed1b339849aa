-- The variables that an event sets of a process that has these.
use Rattle.std.proofs.Common.{map, string_bytes}
use Rattle.pd_events.proofs.RecordFacts.{nothing_set}
use Rattle.pd_events.proofs.record.sets_of_event.Goals as goal

pub returns-in-None : goal.returns-in-None
returns-in-None c = rw c.new.ensures.items (nothing_set (map string_bytes c.args.vars.now) c.args.settings c.in-None.is)
