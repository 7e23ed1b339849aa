-- The comparisons that were asked decide nothing.
use Rattle.std.proofs.Common.{◌≡◌, ◌-◌, length, drop}
use Rattle.walk_tables.specs.Series.{parts_hold}
use Rattle.walk_tables.proofs.series.Series.holds_at.Given as goal

abbrev pub invariant-loop-i : goal.invariant-loop-i
invariant-loop-i l =
    parts_hold l.self.is_and (drop (length l.self.parts.items - l.i) l.self.parts.items) l.prefix l.x l.y ≡
    l.self.is_and
