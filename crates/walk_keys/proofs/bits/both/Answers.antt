-- Bit by bit.
use Rattle.walk_keys.proofs.Truths.{has_both}
use Rattle.walk_keys.proofs.bits.both.Goals as goal

pub returns : goal.returns
returns c = has_both c.args.first c.args.second
