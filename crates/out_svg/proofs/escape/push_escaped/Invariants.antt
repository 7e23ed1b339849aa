-- What the loop of `push_escaped` keeps.
use Rattle.std.proofs.Common.{◌≡◌, ◌++◌, drop}
use Rattle.out_svg.specs.Escapes.{escape, escaped_after}
use Rattle.out_svg.proofs.escape.push_escaped.Given as goal

abbrev pub invariant-loop-byte : goal.invariant-loop-byte
invariant-loop-byte l =
    l.out.items ++ escaped_after l.earlier l.last (drop l.byte-index l.text)
    ≡ l.initial.out.items ++ escape l.text
