-- The columns that remain, and those of the bytes so far.
use Rattle.std.proofs.Common.{◌≡◌, ◌+◌, take}
use Rattle.app_text.specs.Shown.{columns}
use Rattle.app_text.proofs.window.fitting_first.Given as goal

abbrev pub invariant-loop-count : goal.invariant-loop-count
invariant-loop-count l = l.room + columns (take l.count l.bytes) ≡ l.columns
