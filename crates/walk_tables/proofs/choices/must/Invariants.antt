-- The choices that were asked decide nothing.
use Rattle.std.proofs.Common.{◌≡◌, ℕ, ◌-◌, length, drop, true}
use Rattle.walk_tables.specs.Choices.{choices_hold}
use Rattle.walk_tables.proofs.choices.must.Given as goal

abbrev pub invariant-loop-i : goal.invariant-loop-i
invariant-loop-i l =
    l.is_and ≡ true → (x y : ℕ)
    → choices_hold l.is_and (drop (length l.choices - l.i) l.choices) l.prefix x y ≡ true
