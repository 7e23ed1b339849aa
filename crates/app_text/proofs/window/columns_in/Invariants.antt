-- The columns of the bytes so far.
use Rattle.std.proofs.Common.{◌≡◌, ◌-◌, ◌^◌, take, min}
use Rattle.app_text.specs.Shown as shown
use Rattle.app_text.proofs.window.columns_in.Given as goal

abbrev pub invariant-loop-byte : goal.invariant-loop-byte
invariant-loop-byte l = l.columns ≡ min (shown.columns (take l.byte-index l.bytes)) (2 ^ 64 - 1)
