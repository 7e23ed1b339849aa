-- What the loop of `go_up` keeps.
use Rattle.std.proofs.Common.{◌-◌, sum}
use Rattle.pd_evidence.specs.Steps.{IsOnWay}
use Rattle.pd_evidence.proofs.observation.go_up.Given as goal

abbrev pub invariant-loop-p : goal.invariant-loop-p
invariant-loop-p l = IsOnWay l.computation.events l.initial.here l.to l.initial.path.items l.here l.path.items

abbrev pub decreases-loop-p : goal.decreases-loop-p
decreases-loop-p l = sum l.to - sum l.here
