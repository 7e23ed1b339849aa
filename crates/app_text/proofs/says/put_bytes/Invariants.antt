-- The bytes so far were put.
use Rattle.std.proofs.Common.{◌≡◌, ◌++◌, take}
use Rattle.app_text.specs.Shown.{shown}
use Rattle.app_text.proofs.says.put_bytes.Given as goal

abbrev pub invariant-loop-byte : goal.invariant-loop-byte
invariant-loop-byte l = l.out.items ≡ l.initial.out.items ++ shown (take l.byte-index l.bytes)
