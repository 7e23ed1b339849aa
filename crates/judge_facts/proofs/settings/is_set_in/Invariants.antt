-- None of the settings so far is one of the variable.
use Rattle.std.proofs.Common.{◌≡◌, false, take}
use Rattle.judge_facts.specs.Settings.{is_set_in}
use Rattle.judge_facts.proofs.settings.is_set_in.Given as goal

abbrev pub invariant-loop-i : goal.invariant-loop-i
invariant-loop-i l = is_set_in l.var (take l.i l.settings) ≡ false
