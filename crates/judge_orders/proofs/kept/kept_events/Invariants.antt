-- The kept events so far.
use Rattle.judge_orders.specs.KeptEvents.{AreKeptUpTo}
use Rattle.judge_orders.proofs.kept.kept_events.Given as goal

abbrev pub invariant-loop-n : goal.invariant-loop-n
invariant-loop-n l = AreKeptUpTo l.computation l.p l.vars l.numbers.items l.n
