-- The consistent cuts of one prefix.
use Rattle.walk_runs.proofs.Neighbors.{inside, step_in_prefix, one_below}
use Rattle.walk_runs.proofs.laws.prefixes.Goals as goal

pub returns-clause-inside : goal.returns-clause-inside
returns-clause-inside c = inside

pub returns-clause-step_down : goal.returns-clause-step_down
returns-clause-step_down c = step_in_prefix

pub returns-clause-one_below : goal.returns-clause-one_below
returns-clause-one_below c = one_below
