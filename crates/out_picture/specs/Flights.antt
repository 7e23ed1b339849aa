-- Which events send a message that no event receives.
use Rattle.std.specs.Prelude.{Bool, true, false, not, ◌&&◌, ◌==◌, List, Option, Some, None}
use Rattle.std.specs.List.{list_any}
use Rattle.def_model.specs.Events.{Computation, Place, Kind, Local, Send, Receive, kind_at}
use Rattle.pd_match.specs.declared.place.Place.{Place as MatchedPlace}

-- the kind is that of a send
abbrev pub is_send : Option Kind → Bool
is_send None = false
is_send (Some Local) = false
is_send (Some (Send id)) = true
is_send (Some (Receive id)) = false

-- some message is sent at this place
abbrev pub is_received : List (MatchedPlace × MatchedPlace) → Place → Bool
is_received messages e =
    list_any (λ (message : MatchedPlace × MatchedPlace). message.0.process == e.process
    && message.0.number == e.number) messages

-- the event sends a message, and none of the messages that are received is sent there
abbrev pub is_flight : Computation → List (MatchedPlace × MatchedPlace) → Place → Bool
is_flight c messages e = is_send (kind_at c e) && not (is_received messages e)
