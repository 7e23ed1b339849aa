-- What the loops of `pack` keep.
use Rattle.std.proofs.Common.{◌≡◌, take}
use Rattle.walk_keys.specs.Keys.{AreDigits, key_of}
use Rattle.walk_keys.proofs.single.pack.Given as goal

abbrev pub invariant-loop-count : goal.invariant-loop-count
invariant-loop-count l = record {
  small : AreDigits (take l.count-index l.counts);
  so_far : l.key ≡ key_of (take l.count-index l.counts);
}
