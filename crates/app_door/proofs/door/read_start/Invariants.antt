-- What was read is kept.
use Rattle.std.specs.Io.KnownBytes.{Consumes}
use Rattle.app_door.proofs.door.read_start.Given as goal

abbrev pub invariant-loop-read : goal.invariant-loop-read
invariant-loop-read g l = Consumes (g.F.Read.remaining l.initial.file) (g.F.Read.remaining l.file) l.start.items
