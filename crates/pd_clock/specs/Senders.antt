-- The sends of the receipts, by their places.
use Rattle.std.specs.Prelude.{◌≡◌, ◌↔◌, Option, Some, option_map}
use Rattle.def_model.specs.Events as events
use Rattle.def_model.specs.Events.{Computation}
use Rattle.def_model.specs.Messages.{IsMessage}
use Rattle.pd_match.specs.Views.{place_view}
use Rattle.pd_match.specs.declared.place.Place.{Place}

-- what is found is the send of the message that is received at this place, if one is
abbrev pub IsSender : Computation → events.Place → Option Place → Type 0
IsSender c receipt found =
    (send : events.Place) → (option_map place_view found ≡ Some send) ↔ IsMessage c send receipt
