-- The sum with a word times its key.
use Rattle.std.proofs.Common.{rules}
use Rattle.pd_match.specs.IdHash.{term_added}
use Rattle.pd_match.proofs.hashing.add_term.Goals as goal

pub returns : goal.returns
unfolding term_added
returns c = search rules
