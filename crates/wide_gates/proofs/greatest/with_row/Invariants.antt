-- The sums so far.
use Rattle.std.proofs.Common.{◌≡◌, ℕ, ◌+◌, ◌<◌, get_or, length, pos}
use Rattle.std.specs.Prelude.{Vec}
use Rattle.std.specs.Global.{Global}
use Rattle.wide_gates.specs.Greatest.{IsMostUpTo}
use Rattle.wide_gates.specs.Ranges.{InRanges}
use Rattle.wide_gates.specs.declared.range.Range.{Range}
use Rattle.wide_gates.proofs.greatest.with_row.Given as goal

abbrev pub invariant-loop-i : goal.invariant-loop-i
invariant-loop-i l = record {
  many : length l.made.items ≡ l.i;
  each : (j : ℕ) (b : Vec Range Global) → j < l.i
      → IsMostUpTo l.values (InRanges (get_or l.boxes j b).items) (l.q + 1) (get_or l.made.items j (pos 0));
}
