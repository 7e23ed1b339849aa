-- The plan goes on, and all is known of the processes so far.
use Rattle.std.proofs.Common.{◌≡◌, length}
use Rattle.judge_orders.specs.Lists.{lists_view}
use Rattle.judge_reduced.specs.Planned.{GoesOn}
use Rattle.judge_reduced.proofs.Counting.{HasFew}
use Rattle.judge_reduced.proofs.receipts.push_receipts.Given as goal

abbrev pub invariant-loop-q : goal.invariant-loop-q
invariant-loop-q l = record {
  last : length l.last.items ≡ length l.computation.events;
  goes : GoesOn l.computation (lists_view l.numbers) l.p l.i l.q l.fn.events l.events l.fn.last.items l.last.items;
  few : HasFew (length l.fn.events) (length l.events) l.p l.q;
}
