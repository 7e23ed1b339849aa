-- The levels so far, and the one at hand.
use Rattle.std.proofs.Common.{◌≡◌, ℕ, ◌+◌, ◌^◌, ◌<◌, ◌≤◌, length, get_or}
use Rattle.std.specs.Prelude.{Vec, ℤ}
use Rattle.std.specs.Global.{Global}
use Rattle.wide_gates.specs.Tables.{HasWidth}
use Rattle.wide_gates.proofs.table.Table.new.Given as goal

abbrev pub invariant-loop-width : goal.invariant-loop-width
invariant-loop-width l = record {
  width_is : l.width ≡ 2 ^ length l.levels.items;
  few : l.width ≤ l.events + 1;
  here : HasWidth l.row (l.events + 1) l.width l.level.items;
  each : (k : ℕ) (d : Vec ℤ Global) → k < length l.levels.items
      → HasWidth l.row (l.events + 1) (2 ^ k) (get_or l.levels.items k d).items;
}

abbrev pub decreases-loop-width : goal.decreases-loop-width
decreases-loop-width l = length l.level.items
