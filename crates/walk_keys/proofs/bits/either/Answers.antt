-- Bit by bit.
use Rattle.walk_keys.proofs.Truths.{has_either}
use Rattle.walk_keys.proofs.bits.either.Goals as goal

pub returns : goal.returns
returns c = has_either c.args.first c.args.second
