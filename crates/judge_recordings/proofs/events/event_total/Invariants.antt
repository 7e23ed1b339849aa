-- The events of the processes so far.
use Rattle.std.proofs.Common.{◌≡◌, take}
use Rattle.def_model.specs.Cuts.{total}
use Rattle.read_traces.specs.Views.{computation_view}
use Rattle.judge_recordings.proofs.events.event_total.Given as goal

abbrev pub invariant-loop-process : goal.invariant-loop-process
invariant-loop-process l = l.events ≡ total (computation_view (take l.process-index l.traces))
