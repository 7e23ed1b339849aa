-- The numbers so far.
use Rattle.std.proofs.Common.{◌≡◌, ℕ, ◌<◌, get_or, length, pos}
use Rattle.wide_gates.proofs.levels.naturals.Given as goal

abbrev pub invariant-loop-number : goal.invariant-loop-number
invariant-loop-number l = record {
  many : length l.naturals.items ≡ l.number-index;
  each : (j : ℕ) → j < l.number-index → pos (get_or l.naturals.items j 0) ≡ get_or l.numbers j (pos 0);
}
