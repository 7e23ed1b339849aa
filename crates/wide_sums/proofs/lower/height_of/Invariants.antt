-- What the loop of `height_of` keeps.
use Rattle.std.proofs.Common.{◌≡◌, drop, max}
use Rattle.def_wide.specs.Heights.{height}
use Rattle.wide_sums.proofs.lower.height_of.Given as goal

abbrev pub invariant-loop-count : goal.invariant-loop-count
invariant-loop-count l = height l.counts ≡ max l.height (height (drop l.count-index l.counts))
