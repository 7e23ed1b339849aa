-- Where no event is stuck there is no cycle.
use Rattle.def_model.proofs.Stuck.{none_stuck}
use Rattle.read_traces.specs.Views.{computation_view}
use Rattle.pd_clock.proofs.cycle.reported_cycle.Goals as goal

pub returns-in-None-clause-none : goal.returns-in-None-clause-none
returns-in-None-clause-none c = (none_stuck (computation_view c.args.traces.now)).1 c.in-None.ensures.none
