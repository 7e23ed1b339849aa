-- The laws of births.
use Rattle.walk_runs.proofs.Born.{same_prefix, born_single, born_by_prefix, candidates_are_cuts, no_birth_missed}
use Rattle.walk_runs.proofs.Flags.{alive_between, young_at_first, top_flag, low_flag, none_skipped, has_prefix, first_is_young, ends_of_interval}
use Rattle.walk_runs.proofs.laws.births.Goals as goal

pub returns-clause-same_prefix : goal.returns-clause-same_prefix
returns-clause-same_prefix c = same_prefix

pub returns-clause-single : goal.returns-clause-single
returns-clause-single c = born_single

pub returns-clause-by_prefix : goal.returns-clause-by_prefix
returns-clause-by_prefix c = born_by_prefix

pub returns-clause-between : goal.returns-clause-between
returns-clause-between c = alive_between

pub returns-clause-first : goal.returns-clause-first
returns-clause-first c = young_at_first

pub returns-clause-top : goal.returns-clause-top
returns-clause-top c = top_flag

pub returns-clause-low : goal.returns-clause-low
returns-clause-low c = low_flag

pub returns-clause-candidates : goal.returns-clause-candidates
returns-clause-candidates c = candidates_are_cuts

pub returns-clause-none_missed : goal.returns-clause-none_missed
returns-clause-none_missed c = no_birth_missed

pub returns-clause-none_skipped : goal.returns-clause-none_skipped
returns-clause-none_skipped c = none_skipped

pub returns-clause-has_prefix : goal.returns-clause-has_prefix
returns-clause-has_prefix c = has_prefix

pub returns-clause-start : goal.returns-clause-start
returns-clause-start c = first_is_young

pub returns-clause-ends : goal.returns-clause-ends
returns-clause-ends c = ends_of_interval
