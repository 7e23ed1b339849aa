-- What the loops of `sends_of` keep.
use Rattle.read_traces.specs.Views.{computation_view}
use Rattle.pd_match.specs.Noted.{HasBefore, event_place, place_noted}
use Rattle.def_model.specs.Events.{Send}
use Rattle.pd_match.proofs.sending.sends_of.Given as goal

abbrev pub invariant-loop-p : goal.invariant-loop-p
invariant-loop-p g l = HasBefore Send (computation_view l.traces) (event_place l.p 0) (place_noted l.sends)
