-- The bits of the cuts so far.
use Rattle.std.proofs.Common.{◌≡◌, ℕ, ◌+◌, ◌-◌, ◌<◌, ◌≤◌, ◌+ℤ◌, List, false}
use Rattle.walk_keys.specs.Words.{has_bit}
use Rattle.walk_tables.specs.Choices.{choice_holds}
use Rattle.walk_tables.specs.Tables.{columns_value}
use Rattle.walk_tables.proofs.choice.Choice.mask_after.Given as goal

abbrev pub invariant-loop-j : goal.invariant-loop-j
invariant-loop-j l = record {
  within : (prefix : List ℕ) → l.base ≡ l.self.sum.constant +ℤ columns_value l.self.sum.columns.items prefix → (k : ℕ)
      → k < l.j → has_bit l.mask k ≡ choice_holds l.self prefix (l.x + k) (l.y - k);
  beyond : (k : ℕ) → l.j ≤ k → has_bit l.mask k ≡ false;
}
