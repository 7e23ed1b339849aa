-- What the loops of `least_stuck` keep.
use Rattle.std.proofs.Common.{ℕ, ◌<◌}
use Rattle.read_traces.specs.Views.{computation_view}
use Rattle.def_model.specs.Events.{place}
use Rattle.def_model.specs.Order.{IsStuck}
use Rattle.pd_clock.proofs.cycle.least_stuck.Given as goal

abbrev pub invariant-loop-p : goal.invariant-loop-p
invariant-loop-p l = (q : ℕ) → q < l.p → (n : ℕ) → ¬ IsStuck (computation_view l.traces) (place q n)
