-- What the loop of `widest_room` keeps.
use Rattle.std.proofs.Common.{◌≡◌, drop}
use Rattle.out_picture.specs.Pictures.{texts_view}
use Rattle.out_picture.specs.Rooms.{widest_after, widest_room}
use Rattle.out_picture.proofs.rooms.widest_room.Given as goal

abbrev pub invariant-loop-text : goal.invariant-loop-text
invariant-loop-text l =
    widest_after l.widest (texts_view (drop l.text-index l.texts)) ≡ widest_room (texts_view l.texts)
