-- What the greatest cut before any good count decides.
use Rattle.wide_conjunctions.proofs.Avoiding.{avoids_before_good, free_after_most, free_at_first, none_if_full}
use Rattle.wide_conjunctions.proofs.clause_laws.clauses.Goals as goal

pub returns-clause-avoids : goal.returns-clause-avoids
returns-clause-avoids c = avoids_before_good

pub returns-clause-after : goal.returns-clause-after
returns-clause-after c = free_after_most

pub returns-clause-at_first : goal.returns-clause-at_first
returns-clause-at_first c = free_at_first

pub returns-clause-none : goal.returns-clause-none
returns-clause-none c = none_if_full
