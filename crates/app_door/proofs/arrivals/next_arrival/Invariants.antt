-- While nobody is let in, the processes that have a stream and what is asked at the door stay as they were.
use Rattle.std.proofs.Common.{◌≡◌}
use Rattle.app_door.proofs.arrivals.next_arrival.Given as goal

abbrev pub invariant-loop-turn : goal.invariant-loop-turn
invariant-loop-turn g l = record {
  joined : l.room.joined.items ≡ l.initial.room.joined.items;
  door : l.room.door ≡ l.initial.room.door;
}
