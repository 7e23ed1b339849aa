-- The flags of runs.
use Rattle.walk_runs.proofs.RunFlags.{flags_of_moved, flags_of_born, candidates_in_runs}
use Rattle.walk_runs.proofs.laws.flags.Goals as goal

pub returns-clause-moved : goal.returns-clause-moved
returns-clause-moved c = flags_of_moved

pub returns-clause-born : goal.returns-clause-born
returns-clause-born c = flags_of_born

pub returns-clause-candidates : goal.returns-clause-candidates
returns-clause-candidates c = candidates_in_runs
