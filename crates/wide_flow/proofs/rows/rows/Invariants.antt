-- What the loop of `rows` keeps.
use Rattle.std.proofs.Common.{◌≡◌, ℕ, ◌<◌, length}
use Rattle.wide_flow.specs.Rows.{IsRow, row_of}
use Rattle.wide_flow.proofs.rows.rows.Given as goal

abbrev pub invariant-loop-process : goal.invariant-loop-process
invariant-loop-process l = record {
  count : length l.rows.items ≡ l.process;
  each : (p : ℕ) → p < l.process → IsRow l.steps p (row_of l.rows.items p);
}
