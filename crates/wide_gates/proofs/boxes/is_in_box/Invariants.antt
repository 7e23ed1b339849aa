-- The ranges so far stay.
use Rattle.std.proofs.Common.{ℕ, ◌<◌, get_or}
use Rattle.wide_gates.specs.Ranges.{HasRange}
use Rattle.wide_gates.specs.declared.range.Range.{Range}
use Rattle.wide_gates.proofs.boxes.is_in_box.Given as goal

abbrev pub invariant-loop-q : goal.invariant-loop-q
invariant-loop-q l = (j : ℕ) (d : Range) → j < l.q → HasRange l.computation.events l.spot j (get_or l.ranges j d)
