-- The word that begins at this byte.
use Rattle.pd_match.specs.IdHash.{word_at}
use Rattle.pd_match.proofs.hashing.word.Goals as goal

pub returns : goal.returns
unfolding word_at
returns c = c.from_le_bytes.ensures
