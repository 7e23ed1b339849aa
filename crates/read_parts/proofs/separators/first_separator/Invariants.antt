-- The lines so far are bytes of the first part.
use Rattle.std.proofs.Common.{◌-◌, ◌≤◌, length}
use Rattle.read_parts.proofs.PartCuts.{GoesOn}
use Rattle.read_parts.proofs.separators.first_separator.Given as goal

abbrev pub invariant-lines : goal.invariant-lines
invariant-lines l = record {
  within : l.at ≤ length l.bytes;
  goes : GoesOn l.bytes l.at;
}

abbrev pub decreases-lines : goal.decreases-lines
decreases-lines l = length l.bytes - l.at
