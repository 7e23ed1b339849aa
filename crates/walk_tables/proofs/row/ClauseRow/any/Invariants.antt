-- All bits so far.
use Rattle.std.proofs.Common.{◌≡◌, ℕ, ◌<◌, get_or, true}
use Rattle.walk_keys.specs.Words.{has_bit}
use Rattle.walk_tables.proofs.row.ClauseRow.any.Given as goal

abbrev pub invariant-loop-word : goal.invariant-loop-word
invariant-loop-word l = record {
  done : (k j : ℕ) → k < l.word-index → has_bit (get_or l.word-items k 0) j ≡ true → has_bit l.all j ≡ true;
  beyond : (j : ℕ) → has_bit l.self.beyond j ≡ true → has_bit l.all j ≡ true;
}
