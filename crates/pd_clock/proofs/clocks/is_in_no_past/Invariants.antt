-- What the loop of `is_in_no_past` keeps.
use Rattle.std.proofs.Common.{◌≢◌, ℕ, ◌+◌, ◌-◌, ◌*◌, ◌<◌, get_or, length}
use Rattle.pd_clock.specs.Orders.{clocks_of}
use Rattle.pd_clock.proofs.clocks.is_in_no_past.Given as goal

abbrev pub invariant-loop-q : goal.invariant-loop-q
invariant-loop-q l = (k : ℕ) → k < l.q → k ≢ l.p → 0 < get_or l.counts k 0
    → get_or (clocks_of l.clocks k) ((get_or l.counts k 0 - 1) * length l.counts + l.p) 0 < get_or l.counts l.p 0
