-- What the loops of `has_pasts` keep.
use Rattle.std.proofs.Common.{ℕ, ◌<◌, get_or}
use Rattle.pd_clock.specs.Orders.{clocks_of}
use Rattle.pd_clock.specs.Pasts.{HasPast}
use Rattle.pd_clock.proofs.clocks.has_pasts.Given as goal

abbrev pub invariant-loop-p : goal.invariant-loop-p
invariant-loop-p l = (k : ℕ) → k < l.p → 0 < get_or l.counts k 0
    → HasPast (clocks_of l.clocks k) (get_or l.counts k 0) l.counts k
