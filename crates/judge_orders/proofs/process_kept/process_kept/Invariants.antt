-- What is kept of the events so far.
use Rattle.judge_orders.proofs.SeenRows.{IsKeptSoFar}
use Rattle.judge_orders.proofs.process_kept.process_kept.Given as goal

abbrev pub invariant-loop-k : goal.invariant-loop-k
invariant-loop-k l = IsKeptSoFar l.start l.events l.vars l.numbers.items l.values.items l.row.items l.last l.k
