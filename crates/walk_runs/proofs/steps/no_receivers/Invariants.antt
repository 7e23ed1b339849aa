-- What the loop of `no_receivers` keeps.
use Rattle.walk_runs.specs.Needs.{HaveReceivers, table_view}
use Rattle.walk_runs.proofs.steps.no_receivers.Given as goal

abbrev pub invariant-loop-q : goal.invariant-loop-q
invariant-loop-q l = HaveReceivers l.computation.events 0 l.q (table_view l.receivers.items)
