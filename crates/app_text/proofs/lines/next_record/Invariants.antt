-- The records are those of the bytes that remain, if the number of the line fits.
use Rattle.std.proofs.Common.{◌≡◌, ◌+◌, ◌≤◌, ◌<◌, ◌^◌, length}
use Rattle.app_text.specs.Lines.{records_from}
use Rattle.app_text.proofs.lines.next_record.Given as goal

abbrev pub invariant-lines : goal.invariant-lines
invariant-lines l = l.lines_before + length l.bytes < 2 ^ 64
    → (l.line + length l.rest ≤ l.lines_before + length l.bytes)
    × (records_from (l.lines_before + 1) l.bytes ≡ records_from (l.line + 1) l.rest)

abbrev pub decreases-lines : goal.decreases-lines
decreases-lines l = length l.rest
