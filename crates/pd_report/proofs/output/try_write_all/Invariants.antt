-- What the loops of `try_write_all` keep.
use Rattle.std.proofs.Common.{◌≤◌, ◌-◌, length, take}
use Rattle.std.specs.Io.KnownBytes.{Appends}
use Rattle.pd_report.proofs.output.try_write_all.Given as goal

abbrev pub invariant-loop-taken : goal.invariant-loop-taken
invariant-loop-taken g l = record {
  within : l.taken ≤ length l.text;
  written : Appends (g.W.Write.contents l.fn.writer) (g.W.Write.contents l.writer) (take l.taken l.text);
}

abbrev pub decreases-loop-taken : goal.decreases-loop-taken
decreases-loop-taken g l = length l.text - l.taken
