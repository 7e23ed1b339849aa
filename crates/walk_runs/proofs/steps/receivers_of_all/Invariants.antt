-- What the loop of `receivers_of_all` keeps.
use Rattle.std.proofs.Common.{length}
use Rattle.walk_runs.specs.Needs.{HaveReceivers, table_view}
use Rattle.walk_runs.proofs.steps.receivers_of_all.Given as goal

abbrev pub invariant-loop-p : goal.invariant-loop-p
invariant-loop-p l =
    HaveReceivers l.computation.events l.p (length l.computation.events) (table_view l.receivers.items)
