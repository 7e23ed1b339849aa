-- As many spaces were put as the bytes so far take columns.
use Rattle.std.proofs.Common.{◌≡◌, ◌++◌, take, replicate}
use Rattle.app_text.specs.Shown.{columns}
use Rattle.app_text.proofs.window.put_indent.Given as goal

abbrev pub invariant-loop-byte : goal.invariant-loop-byte
invariant-loop-byte l = l.out.items ≡ l.initial.out.items ++ replicate (columns (take l.byte-index l.bytes)) 32
