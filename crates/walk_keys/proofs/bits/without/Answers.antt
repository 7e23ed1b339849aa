-- Bit by bit.
use Rattle.walk_keys.proofs.Truths.{has_without}
use Rattle.walk_keys.proofs.bits.without.Goals as goal

pub returns : goal.returns
returns c = has_without c.args.word c.args.taken
