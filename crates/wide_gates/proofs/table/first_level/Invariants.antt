-- The numbers at the counts so far.
use Rattle.std.proofs.Common.{◌≡◌, ℕ, ◌+◌, ◌<◌, length, get_or, pos}
use Rattle.wide_gates.specs.Tables.{IsGreatest}
use Rattle.wide_gates.proofs.table.first_level.Given as goal

abbrev pub invariant-loop-count : goal.invariant-loop-count
invariant-loop-count l = record {
  many : length l.level.items ≡ l.count;
  each : (k : ℕ) → k < l.count → IsGreatest l.row k (k + 1) (get_or l.level.items k (pos 0));
}
