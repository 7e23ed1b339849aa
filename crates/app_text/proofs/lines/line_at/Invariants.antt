-- The line that is looked for is one of those that remain.
use Rattle.std.proofs.Common.{◌≡◌, ◌-◌, [], get_or}
use Rattle.def_format.specs.Lines.{all_lines}
use Rattle.app_text.proofs.lines.line_at.Given as goal

abbrev pub invariant-loop-line : goal.invariant-loop-line
invariant-loop-line l = get_or (all_lines l.rest) (l.number - l._line) []
    ≡ get_or (all_lines l.bytes) (l.number - 1) []
