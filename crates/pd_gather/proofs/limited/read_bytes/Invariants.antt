-- The bytes so far are what the source gave, of which a read fails as before, and it may be asked again.
use Rattle.std.proofs.Common.{◌≡◌, ◌-◌, ◌<◌, ◌≤◌, false, vec_len}
use Rattle.std.specs.Io.KnownBytes.{Consumes}
use Rattle.pd_gather.proofs.limited.read_bytes.Given as goal

abbrev pub invariant-reads : goal.invariant-reads
invariant-reads g l = record {
  room : 0 < vec_len l.piece;
  within : vec_len l.bytes ≤ l.most;
  read : Consumes (g.R.ByteSource.left l.initial.reader).bytes (g.R.ByteSource.left l.reader).bytes l.bytes.items;
  same : (g.R.ByteSource.left l.reader).fails ≡ (g.R.ByteSource.left l.initial.reader).fails;
  more : g.R.ByteSource.has_ended l.reader ≡ false;
}

abbrev pub decreases-reads : goal.decreases-reads
decreases-reads g l = l.most - vec_len l.bytes
