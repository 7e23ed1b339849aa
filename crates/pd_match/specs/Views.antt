-- What the program's places, messages and faults stand for.
use Rattle.std.specs.Prelude.{List, Option, Some, None, map}
use Rattle.def_model.specs.Events as events
use Rattle.def_model.specs.Messages as messages
use Rattle.pd_match.specs.declared.place.Place.{Place}
use Rattle.pd_match.specs.declared.fault.MatchFault.{MatchFault}
use Rattle.pd_match.specs.declared.fault.MatchFault.TheVariants as faults

abbrev pub place_view : Place → events.Place
place_view place = record { process = place.process; number = place.number }

-- the fault that is reported, if it isn't out of memory
abbrev pub match_fault_view : MatchFault → Option messages.Fault
match_fault_view (faults.SendTwice place) = Some (messages.SendTwice (place_view place))
match_fault_view (faults.Orphan place) = Some (messages.Orphan (place_view place))
match_fault_view (faults.SelfMessage place) = Some (messages.SelfMessage (place_view place))
match_fault_view (faults.ReceivedTwice place) = Some (messages.ReceivedTwice (place_view place))
match_fault_view faults.Memory = None

-- each message as its send and its receipt
abbrev pub pairs_view : List (Place × Place) → List (events.Place × events.Place)
pairs_view pairs = map (λ pair. (place_view pair.0, place_view pair.1)) pairs
