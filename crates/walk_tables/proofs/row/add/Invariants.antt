-- The words so far have the row's bits too, and the others stay.
use Rattle.std.proofs.Common.{◌≡◌, ℕ, ◌<◌, ◌≤◌, ◌||◌, get_or}
use Rattle.walk_keys.specs.Words.{has_bit}
use Rattle.walk_tables.specs.Rows.{row_has}
use Rattle.walk_tables.proofs.row.add.Given as goal

abbrev pub invariant-loop-n : goal.invariant-loop-n
invariant-loop-n l = record {
  done : (k : ℕ) → k < l.n → (j : ℕ)
      → has_bit (get_or l.words k 0) j ≡ (has_bit (get_or l.initial.words k 0) j || row_has l.row k j);
  same : (k : ℕ) → l.n ≤ k → get_or l.words k 0 ≡ get_or l.initial.words k 0;
}
