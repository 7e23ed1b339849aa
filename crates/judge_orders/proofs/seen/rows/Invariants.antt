-- The rows of the events so far.
use Rattle.std.proofs.Common.{take}
use Rattle.judge_orders.specs.Lists.{lists_view}
use Rattle.judge_orders.specs.Ranked.{AreRowsBy}
use Rattle.judge_orders.proofs.seen.rows.Given as goal

abbrev pub invariant-loop-number : goal.invariant-loop-number
invariant-loop-number l =
    AreRowsBy l.computation.events (lists_view l.columns) l.p (take l.number-index l.numbers) l.known.items
