-- What the choices that were asked say of each cut.
use Rattle.std.proofs.Common.{◌≡◌, ℕ, ◌+◌, ◌-◌, ◌<◌, ◌≤◌, length, drop, false}
use Rattle.walk_keys.specs.Words.{has_bit}
use Rattle.walk_tables.specs.Choices.{choices_hold}
use Rattle.walk_tables.proofs.choices.mask.Given as goal

abbrev pub invariant-loop-i : goal.invariant-loop-i
invariant-loop-i l = record {
  within : (j : ℕ) → j < l.n → has_bit l.found j
      ≡ choices_hold l.is_and (drop (length l.choices - l.i) l.choices) l.prefix (l.x + j) (l.y - j);
  beyond : (j : ℕ) → l.n ≤ j → has_bit l.found j ≡ false;
}
