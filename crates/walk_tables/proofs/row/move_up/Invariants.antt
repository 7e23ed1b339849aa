-- The words so far are moved, and the others stay.
use Rattle.std.proofs.Common.{◌≡◌, ℕ, ◌<◌, ◌≤◌, get_or}
use Rattle.walk_keys.specs.Words.{has_bit}
use Rattle.walk_tables.specs.Rows.{moved}
use Rattle.walk_tables.proofs.row.move_up.Given as goal

abbrev pub invariant-loop-n : goal.invariant-loop-n
invariant-loop-n l = record {
  done : (k : ℕ) → k < l.n → (j : ℕ) → j < 64
      → has_bit (get_or l.words k 0) j ≡ moved l.by (has_bit (get_or l.initial.words k 0)) j;
  same : (k : ℕ) → l.n ≤ k → get_or l.words k 0 ≡ get_or l.initial.words k 0;
}
