-- The truths so far.
use Rattle.std.proofs.Common.{◌≡◌, ℕ, ◌<◌, ◌&&◌, false, get_or, length}
use Rattle.wide_gates.proofs.flags.both.Given as goal

abbrev pub invariant-loop-k : goal.invariant-loop-k
invariant-loop-k l = record {
  many : length l.flags.items ≡ l.k;
  each : (j : ℕ) → j < l.k → get_or l.flags.items j false ≡ (get_or l.left j false && get_or l.right j false);
}
