-- The sum of the words carries where the lower bit is reached.
use Rattle.wide_pairs.proofs.Carries.{reached_lowest, reached_next, reached_within}
use Rattle.wide_pairs.proofs.grid_row.reached.Goals as goal

pub returns-clause-within : goal.returns-clause-within
returns-clause-within c = reached_within c.args.free c.args.first

pub returns-clause-lowest : goal.returns-clause-lowest
returns-clause-lowest c = reached_lowest c.args.free c.args.first

pub returns-clause-next : goal.returns-clause-next
returns-clause-next c = reached_next c.args.free c.args.first
