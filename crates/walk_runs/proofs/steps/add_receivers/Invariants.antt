-- What the loop of `add_receivers` keeps.
use Rattle.walk_runs.specs.Needs.{table_view}
use Rattle.walk_runs.specs.Receivers.{HasAdded, IsBitOfRow}
use Rattle.walk_runs.proofs.steps.add_receivers.Given as goal

abbrev pub invariant-loop-i : goal.invariant-loop-i
invariant-loop-i l =
    HasAdded (IsBitOfRow (table_view l.fn.receivers.items) l.row l.i l.p) (table_view l.fn.receivers.items)
    (table_view l.receivers.items)
