-- The counts so far.
use Rattle.std.proofs.Common.{◌≡◌, ℕ, ◌<◌, get_or, length, pos}
use Rattle.wide_gates.proofs.levels.count_row.Given as goal

abbrev pub invariant-loop-count : goal.invariant-loop-count
invariant-loop-count l = record {
  many : length l.row.items ≡ l.count;
  each : (j : ℕ) → j < l.count → get_or l.row.items j (pos 0) ≡ pos j;
}
