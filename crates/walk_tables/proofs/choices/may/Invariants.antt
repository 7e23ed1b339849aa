-- The choices that were asked decide nothing.
use Rattle.std.proofs.Common.{◌≡◌, ℕ, ◌-◌, length, drop, false}
use Rattle.walk_tables.specs.Choices.{choices_hold}
use Rattle.walk_tables.proofs.choices.may.Given as goal

abbrev pub invariant-loop-i : goal.invariant-loop-i
invariant-loop-i l =
    l.is_and ≡ false → (x y : ℕ)
    → choices_hold l.is_and (drop (length l.choices - l.i) l.choices) l.prefix x y ≡ false
