-- The digits that are written stand after those that are left.
use Rattle.std.proofs.Common.{◌≡◌, ◌-◌, ◌^◌, ◌<◌, ◌++◌, length, drop}
use Rattle.walk_keys.specs.Keys.{count_base, digits}
use Rattle.walk_keys.proofs.single.write.Given as goal

abbrev pub invariant-loop-places : goal.invariant-loop-places
invariant-loop-places l = record {
  many : length l.counts ≡ l.last;
  small : l.rest < count_base ^ (l.last - l.places);
  so_far : digits (l.last - l.places) l.rest ++ drop (l.last - l.places) l.counts ≡ digits l.last l.key;
}
