-- The choices that were asked decide nothing.
use Rattle.std.proofs.Common.{◌≡◌, ◌-◌, length, drop}
use Rattle.walk_tables.specs.Choices.{choices_hold}
use Rattle.walk_tables.proofs.choices.hold_at.Given as goal

abbrev pub invariant-loop-i : goal.invariant-loop-i
invariant-loop-i l =
    choices_hold l.is_and (drop (length l.choices - l.i) l.choices) l.prefix l.x l.y ≡ l.is_and
