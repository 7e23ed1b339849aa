-- What the loop of `events` keeps.
use Rattle.std.proofs.Common.{◌≡◌, sum, take}
use Rattle.wide_conjunctions.proofs.order.events.Given as goal

abbrev pub invariant-loop-count : goal.invariant-loop-count
invariant-loop-count l = l.events ≡ sum (take l.count-index l.counts)
