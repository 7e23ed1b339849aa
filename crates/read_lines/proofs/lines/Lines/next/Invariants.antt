-- The source isn't at its end, and gave the lines so far and a part of the next one.
use Rattle.std.proofs.Common.{◌≡◌, List, ℕ, false}
use Rattle.read_lines.specs.GivenLines.{HasLines}
use Rattle.read_lines.specs.Steps.{IsInLine}
use Rattle.def_judgement.specs.Writes.{Source}
use Rattle.read_lines.proofs.lines.Lines.next.Given as goal

abbrev pub invariant-pieces : goal.invariant-pieces
invariant-pieces g l = record {
  more : l.self-inside.ended ≡ false;
  open' : g.R.ByteSource.has_ended l.self-inside.reader ≡ false;
  at : (input : Source) (lines : List (List ℕ)) → HasLines input lines l.fn.self
      → IsInLine input lines l.line.items (g.R.ByteSource.left l.self-inside.reader) l.self-inside.held;
}
