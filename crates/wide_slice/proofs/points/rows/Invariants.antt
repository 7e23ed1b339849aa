-- What the loop of `rows` keeps.
use Rattle.std.proofs.Common.{◌≡◌, ℕ, ◌<◌, get_or, length}
use Rattle.wide_slice.specs.Points.{IsRow, row_at}
use Rattle.wide_slice.proofs.points.rows.Given as goal

abbrev pub invariant-loop-process : goal.invariant-loop-process
invariant-loop-process g l = record {
  count : length l.rows.items ≡ l.process;
  each : (p : ℕ) → p < l.process
      → IsRow l.computation.events (g.G.GoodCounts.good l.wanted) p (get_or l.least p 0) (row_at l.rows.items p);
}
