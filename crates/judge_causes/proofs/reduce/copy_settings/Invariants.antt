-- The settings so far are in the list.
use Rattle.std.specs.Prelude.{◌≡◌, take}
use Rattle.judge_causes.proofs.reduce.copy_settings.Given as goal

abbrev pub invariant-loop-i : goal.invariant-loop-i
invariant-loop-i l = l.list.items ≡ take l.i l.settings
