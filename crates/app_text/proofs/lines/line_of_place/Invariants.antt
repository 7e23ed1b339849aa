-- The line in which the next byte stands, and where it begins.
use Rattle.std.proofs.Common.{◌≡◌, ◌+◌, length, take}
use Rattle.def_format.specs.Lines.{line_number, unended_line}
use Rattle.app_text.proofs.lines.line_of_place.Given as goal

abbrev pub invariant-loop-index : goal.invariant-loop-index
invariant-loop-index l = record {
  line : l.line ≡ line_number (take l.index l.before);
  start : l.start + length (unended_line (take l.index l.before)) ≡ l.index;
}
