-- The processes so far have their kept events.
use Rattle.std.proofs.Common.{◌≡◌, length}
use Rattle.judge_orders.specs.KeptEvents.{AllKept}
use Rattle.judge_orders.specs.Lists.{lists_view}
use Rattle.judge_orders.proofs.kept.all_kept_events.Given as goal

abbrev pub invariant-loop-p : goal.invariant-loop-p
invariant-loop-p l = record {
  many : length l.numbers.items ≡ l.p;
  kept : AllKept l.computation (lists_view l.named) (lists_view l.numbers.items) l.p;
}
