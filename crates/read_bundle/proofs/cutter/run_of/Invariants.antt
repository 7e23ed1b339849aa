-- The bytes so far belong to the part, and the next one stands in a line that is no separator.
use Rattle.std.proofs.Common.{◌≡◌, ◌++◌, ◌-◌, ◌≤◌, List, ℕ, drop, length, take}
use Rattle.read_bundle.specs.Cutting.{parts_in_line}
use Rattle.def_format.specs.Bundles.{onto_part}
use Rattle.read_bundle.proofs.cutter.run_of.Given as goal

abbrev pub invariant-lines : goal.invariant-lines
invariant-lines l = record {
  within : l.at ≤ length l.piece;
  parts : (rest : List ℕ) → parts_in_line (l.piece ++ rest)
      ≡ onto_part (take l.at l.piece) (parts_in_line (drop l.at l.piece ++ rest));
}

abbrev pub decreases-lines : goal.decreases-lines
decreases-lines l = length l.piece - l.at
