-- The columns that remain, and those of the bytes that aren't skipped so far.
use Rattle.std.proofs.Common.{◌≡◌, ◌≤◌, ◌+◌, drop, length}
use Rattle.app_text.specs.Shown.{columns}
use Rattle.app_text.proofs.window.skipped_first.Given as goal

abbrev pub invariant-bytes : goal.invariant-bytes
invariant-bytes l = record {
  within : l.skipped ≤ length l.bytes;
  room : l.room + columns (drop l.skipped l.bytes) ≡ l.columns;
}

abbrev pub decreases-bytes : goal.decreases-bytes
decreases-bytes l = l.skipped
