-- What the loop of `widest_value` keeps.
use Rattle.std.proofs.Common.{◌≡◌, drop, map}
use Rattle.out_picture.specs.Pictures.{shown_value, texts_view}
use Rattle.out_picture.specs.Rooms.{widest_after, widest_room}
use Rattle.out_picture.proofs.rooms.widest_value.Given as goal

abbrev pub invariant-loop-value : goal.invariant-loop-value
invariant-loop-value l =
    widest_after l.widest (map shown_value (texts_view (drop l.value-index l.values)))
    ≡ widest_room (map shown_value (texts_view l.values))
