-- A level as runs.
use Rattle.walk_runs.proofs.LevelCuts.{in_runs, cuts_of_whole}
use Rattle.walk_runs.proofs.NextRuns.{first_whole, next_whole}
use Rattle.walk_runs.proofs.OneLevel.{one_whole}
use Rattle.walk_runs.proofs.FirstHits.{count_of_cuts, first_hit_in_runs}
use Rattle.walk_runs.proofs.laws.whole_levels.Goals as goal

pub returns-clause-first : goal.returns-clause-first
returns-clause-first c = first_whole

pub returns-clause-inside : goal.returns-clause-inside
returns-clause-inside c = in_runs

pub returns-clause-cuts : goal.returns-clause-cuts
returns-clause-cuts c = cuts_of_whole

pub returns-clause-next : goal.returns-clause-next
returns-clause-next c = next_whole

pub returns-clause-one : goal.returns-clause-one
returns-clause-one c = one_whole

pub returns-clause-count : goal.returns-clause-count
returns-clause-count c = count_of_cuts

pub returns-clause-first_hit : goal.returns-clause-first_hit
returns-clause-first_hit c = first_hit_in_runs
