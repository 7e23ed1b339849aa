-- The bytes after the last whole word.
use Rattle.pd_match.specs.IdHash.{tail_at}
use Rattle.pd_match.proofs.hashing.tail.Goals as goal

pub returns : goal.returns
unfolding tail_at
returns c = c.from_le_bytes.ensures
