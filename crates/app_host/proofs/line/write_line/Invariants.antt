-- The text so far is written.
use Rattle.std.proofs.Common.{◌≤◌, length, take}
use Rattle.std.specs.Io.KnownBytes.{Appends}
use Rattle.app_host.proofs.line.write_line.Given as goal

abbrev pub invariant-writes : goal.invariant-writes
invariant-writes g l = record {
  within : l.taken ≤ length l.text;
  written : Appends (g.E.Write.contents l.fn.errors) (g.E.Write.contents l.errors) (take l.taken l.text);
}
