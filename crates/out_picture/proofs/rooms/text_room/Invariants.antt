-- What the loop of `text_room` keeps.
use Rattle.std.proofs.Common.{◌≡◌, drop}
use Rattle.out_picture.specs.Rooms.{room_after, text_room}
use Rattle.out_picture.proofs.rooms.text_room.Given as goal

abbrev pub invariant-loop-byte : goal.invariant-loop-byte
invariant-loop-byte l = room_after l.room (drop l.byte-index l.byte-items) ≡ text_room l.byte-items
