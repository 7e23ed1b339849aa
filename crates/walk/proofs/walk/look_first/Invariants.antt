-- What the loop of `look_first` keeps: what is known of the predicates so far.
use Rattle.std.proofs.Common.{◌≡◌, ◌<◌, ℕ, get_or, length}
use Rattle.walk_tables.specs.Views.{CompiledView}
use Rattle.walk.specs.Stages.{OneStands}
use Rattle.walk.specs.declared.stage.Stage.{Stage}
use Rattle.walk.proofs.walk.look_first.Given as goal

abbrev pub invariant-loop-i : goal.invariant-loop-i
invariant-loop-i g l = record {
  one_each : length l.stages.items ≡ l.i;
  each : (j : ℕ) (test : CompiledView) (stage : Stage) → j < l.i
      → OneStands (get_or l.round.tests.now j test) l.round.width l.round.gap l.round.level.now
      (get_or l.stages.items j stage);
}
