-- The first of several least good cuts.
use Rattle.wide_conjunctions.proofs.CutsInOrder.{first_least_is_first, none_good_none_satisfies, one_least_good}
use Rattle.wide_conjunctions.proofs.least_laws.first_of_least.Goals as goal

pub returns-clause-first : goal.returns-clause-first
returns-clause-first c = first_least_is_first

pub returns-clause-none : goal.returns-clause-none
returns-clause-none c = none_good_none_satisfies

pub returns-clause-single : goal.returns-clause-single
returns-clause-single c = one_least_good
