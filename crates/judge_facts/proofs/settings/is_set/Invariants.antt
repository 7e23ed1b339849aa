-- None of the events so far sets the variable.
use Rattle.std.proofs.Common.{◌≡◌, false, take}
use Rattle.judge_facts.specs.Settings.{is_set}
use Rattle.judge_facts.proofs.settings.is_set.Given as goal

abbrev pub invariant-loop-k : goal.invariant-loop-k
invariant-loop-k l = is_set l.var (take l.k l.events) ≡ false
