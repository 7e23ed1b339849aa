-- The counts of the rows so far.
use Rattle.std.proofs.Common.{◌≡◌}
use Rattle.std.specs.Slice.Iter.{chunks_exact_rest, chunks_exact_size}
use Rattle.judge_orders.proofs.PartRows.{AreCountsSoFar}
use Rattle.judge_orders.proofs.parts.counts_at.Given as goal

abbrev pub invariant-loop-row : goal.invariant-loop-row
invariant-loop-row l = record {
  wide : chunks_exact_size l.row-iterator ≡ l.width;
  counts : AreCountsSoFar l.width l.places l.known l.counts.items (chunks_exact_rest l.row-iterator);
}
