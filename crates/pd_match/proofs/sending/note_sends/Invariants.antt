-- What the loops of `note_sends` keep.
use Rattle.read_traces.specs.Views.{computation_view}
use Rattle.pd_match.specs.Noted.{HasBefore, event_place, place_noted}
use Rattle.def_model.specs.Events.{Send}
use Rattle.pd_match.proofs.sending.note_sends.Given as goal

abbrev pub invariant-loop-n : goal.invariant-loop-n
invariant-loop-n g l = HasBefore Send (computation_view l.traces) (event_place l.p l.n) (place_noted l.sends)
