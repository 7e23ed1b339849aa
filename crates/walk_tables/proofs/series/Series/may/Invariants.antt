-- The comparisons that were asked decide nothing.
use Rattle.std.proofs.Common.{◌≡◌, ℕ, ◌-◌, length, drop, false}
use Rattle.walk_tables.specs.Series.{parts_hold}
use Rattle.walk_tables.proofs.series.Series.may.Given as goal

abbrev pub invariant-loop-i : goal.invariant-loop-i
invariant-loop-i l =
    l.self.is_and ≡ false → (x y : ℕ)
    → parts_hold l.self.is_and (drop (length l.self.parts.items - l.i) l.self.parts.items) l.prefix x y ≡ false
