-- What the loops of `count_of` keep.
use Rattle.std.proofs.Common.{◌≡◌, take}
use Rattle.pd_match.specs.Noted.{sends_marked}
use Rattle.pd_match.proofs.matching.count_of.Given as goal

abbrev pub invariant-loop-last : goal.invariant-loop-last
invariant-loop-last l = l.count ≡ sends_marked (take l.last-index l.received)
