-- The records that were passed and those that remain are all of them.
use Rattle.std.proofs.Common.{◌≡◌, ◌+◌, ◌≤◌, length}
use Rattle.app_text.specs.Lines.{records, records_from}
use Rattle.app_answers.proofs.after_end.count_records.Given as goal

abbrev pub invariant-loop-count : goal.invariant-loop-count
invariant-loop-count l = record {
  room : l.line + length l.rest ≤ length l.bytes;
  all : l.count + length (records_from (l.line + 1) l.rest) ≡ length (records l.bytes);
}
