-- The settings so far.
use Rattle.def_long.specs.Views.{value_after}
use Rattle.judge_reduced.specs.SettingLists.{AreSettings}
use Rattle.judge_reduced.proofs.settings.settings_after.Given as goal

abbrev pub invariant-loop-v : goal.invariant-loop-v
invariant-loop-v l = AreSettings (value_after l.computation l.n l.p) l.vars l.v l.sets.items
