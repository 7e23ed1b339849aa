-- What the loop of `is_over` keeps: no predicate so far is open.
use Rattle.std.proofs.Common.{◌≡◌, ◌<◌, ℕ, get_or, length}
use Rattle.walk.specs.declared.stage.Stage.{Stage}
use Rattle.walk.specs.declared.stage.Stage.TheVariants.{Open}
use Rattle.walk.proofs.walk.is_over.Given as goal

abbrev pub invariant-loop-stage : goal.invariant-loop-stage
invariant-loop-stage g l =
    (i : ℕ) (stage : Stage) → i < l.stage-index → i < length l.stages → ¬ (get_or l.stages i stage ≡ Open)
