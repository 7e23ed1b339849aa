-- At first nothing was read.
use Rattle.std.proofs.Common.{refl, arith}
use Rattle.pd_gather.proofs.PrefixesRead.{nothing_read}
use Rattle.pd_gather.proofs.limited.read_bytes.Goals as goal

pub reads-init : goal.reads-init
reads-init g c = record {
  room = c.in_ok-piece.ensures (omega arith);
  within = omega arith;
  read = rw c.new-bytes.ensures.items (nothing_read (g.R.ByteSource.left c.args.reader).bytes);
  same = refl;
  more = c.requires.open;
}
