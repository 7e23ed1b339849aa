-- The record that is looked for is one of those that remain.
use Rattle.std.proofs.Common.{◌≡◌, ◌+◌, ◌-◌, ◌≤◌, length}
use Rattle.std.specs.Prelude.{slice_get}
use Rattle.app_text.specs.Lines.{records, records_from}
use Rattle.app_text.proofs.lines.record_after.Given as goal

abbrev pub invariant-loop-record : goal.invariant-loop-record
invariant-loop-record l = record {
  room : l.line + length l.rest ≤ length l.bytes;
  same : slice_get (records_from (l.line + 1) l.rest) (l.passed - l._record) ≡ slice_get (records l.bytes) l.passed;
}
