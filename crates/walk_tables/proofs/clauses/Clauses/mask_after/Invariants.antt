-- The bits of the cuts so far.
use Rattle.std.proofs.Common.{◌≡◌, ℕ, ◌+◌, ◌-◌, ◌<◌, ◌≤◌, List, false}
use Rattle.walk_keys.specs.Words.{has_bit}
use Rattle.walk_tables.specs.Clauses.{clauses_hold}
use Rattle.walk_tables.specs.Rows.{columns_have}
use Rattle.walk_tables.proofs.clauses.Clauses.mask_after.Given as goal

abbrev pub invariant-loop-j : goal.invariant-loop-j
invariant-loop-j l = record {
  within : (prefix : List ℕ) → ((j : ℕ) → has_bit l.base j ≡ columns_have l.self.columns.items prefix j)
      → (k : ℕ) → k < l.j → has_bit l.mask k ≡ clauses_hold l.self prefix (l.x + k) (l.y - k);
  beyond : (k : ℕ) → l.j ≤ k → has_bit l.mask k ≡ false;
}
