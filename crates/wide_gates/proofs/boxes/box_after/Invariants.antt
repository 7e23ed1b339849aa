-- The ranges so far.
use Rattle.std.proofs.Common.{◌≡◌, ℕ, ◌<◌, get_or, length}
use Rattle.wide_gates.specs.Ranges.{HasRange}
use Rattle.wide_gates.specs.declared.range.Range.{Range}
use Rattle.wide_gates.proofs.boxes.box_after.Given as goal

abbrev pub invariant-loop-q : goal.invariant-loop-q
invariant-loop-q l = record {
  many : length l.made.items ≡ l.q;
  each : (j : ℕ) (d : Range) → j < l.q → HasRange l.computation.events l.spot j (get_or l.made.items j d);
}
