-- The parts of the processes at the places so far.
use Rattle.std.proofs.Common.{◌≡◌, length, map}
use Rattle.judge_orders.specs.OrderViews.{process_view}
use Rattle.judge_orders.specs.PartCounts.{ArePartsBy}
use Rattle.judge_orders.proofs.parts.process_parts.Given as goal

abbrev pub invariant-loop-p : goal.invariant-loop-p
invariant-loop-p l = record {
  many : length l.processes ≡ l.width → length l.parts.items ≡ l.p-index;
  parts : length l.processes ≡ l.width
      → ArePartsBy l.width l.places (map process_view l.processes) (map process_view l.parts.items) l.p-index;
}
