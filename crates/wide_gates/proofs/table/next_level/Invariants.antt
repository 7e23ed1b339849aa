-- The greater of two numbers at the counts so far.
use Rattle.std.proofs.Common.{◌≡◌, ℕ, ◌+◌, ◌<◌, length, get_or, pos}
use Rattle.std.specs.Int.{int_max}
use Rattle.wide_gates.proofs.table.next_level.Given as goal

abbrev pub invariant-loop-count : goal.invariant-loop-count
invariant-loop-count l = record {
  many : length l.next.items ≡ l.count;
  each : (k : ℕ) → k < l.count
      → get_or l.next.items k (pos 0) ≡ int_max (get_or l.level k (pos 0)) (get_or l.level (k + l.width) (pos 0));
}
