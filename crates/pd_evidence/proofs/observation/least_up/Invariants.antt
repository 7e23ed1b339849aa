-- What the loop of `least_up` keeps.
use Rattle.std.proofs.Common.{ℕ, ◌<◌}
use Rattle.pd_evidence.specs.Ways.{GoesUp}
use Rattle.pd_evidence.proofs.observation.least_up.Given as goal

abbrev pub invariant-loop-p : goal.invariant-loop-p
invariant-loop-p l = (q : ℕ) → q < l.p → ¬ GoesUp l.computation.events l.here l.to q
