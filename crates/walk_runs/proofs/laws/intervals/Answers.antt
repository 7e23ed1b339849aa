-- The intervals of a prefix.
use Rattle.walk_runs.proofs.EndPoints.{end_points}
use Rattle.walk_runs.proofs.RunIntervals.{some_interval, one_interval, alive_exactly, first_interval, end_points_by_steps}
use Rattle.walk_runs.proofs.laws.intervals.Goals as goal

pub returns-clause-some : goal.returns-clause-some
returns-clause-some c = some_interval

pub returns-clause-one : goal.returns-clause-one
returns-clause-one c = one_interval

pub returns-clause-alive : goal.returns-clause-alive
returns-clause-alive c = alive_exactly

pub returns-clause-first : goal.returns-clause-first
returns-clause-first c = first_interval

pub returns-clause-next : goal.returns-clause-next
returns-clause-next c = end_points

pub returns-clause-next_by_steps : goal.returns-clause-next_by_steps
returns-clause-next_by_steps c = end_points_by_steps
