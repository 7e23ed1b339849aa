-- The definitions, tried on predicates of three processes.
use Rattle.def_wide.proofs.Tried.{all_equal, some_two_differ, sum_reaches}
use Rattle.def_wide.proofs.examples.Goals as goal

pub returns-clause-differ : goal.returns-clause-differ
returns-clause-differ c = some_two_differ

pub returns-clause-equal : goal.returns-clause-equal
returns-clause-equal c = all_equal

pub returns-clause-sum : goal.returns-clause-sum
returns-clause-sum c = sum_reaches
