-- While connections wait, the processes that have a stream and what is asked at the door stay as they were.
use Rattle.std.proofs.Common.{◌≡◌}
use Rattle.app_door.proofs.room.Room+PlaceConnection+S.next_out.Given as goal

abbrev pub invariant-loop-place : goal.invariant-loop-place
invariant-loop-place g l = record {
  joined : l.self.joined.items ≡ l.initial.self.joined.items;
  door : l.self.door ≡ l.initial.self.door;
}
