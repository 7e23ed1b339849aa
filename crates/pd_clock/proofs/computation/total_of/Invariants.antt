-- What the loops of `total_of` keep.
use Rattle.std.proofs.Common.{◌≡◌, ◌≤◌, ◌*◌, take}
use Rattle.def_format.specs.Limits.{event_limit}
use Rattle.def_model.specs.Cuts.{total}
use Rattle.read_traces.specs.Views.{computation_view}
use Rattle.pd_clock.proofs.computation.total_of.Given as goal

abbrev pub invariant-loop-process : goal.invariant-loop-process
invariant-loop-process l = record {
  so_far : l.total ≡ total (computation_view (take l.process-index l.traces));
  bound : l.total ≤ event_limit * l.process-index;
}
