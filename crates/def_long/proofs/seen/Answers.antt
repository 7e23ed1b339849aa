-- The laws stand in `SameViews` and `SeenSets`.
use Rattle.def_long.proofs.SameViews.{definitely_of_seen, possibly_of_seen, seen_decide}
use Rattle.def_long.proofs.SeenSets.{seen_are_a_set}
use Rattle.def_long.proofs.seen.Goals as goal

pub returns-clause-decide : goal.returns-clause-decide
returns-clause-decide c = seen_decide

pub returns-clause-possibly : goal.returns-clause-possibly
returns-clause-possibly c = possibly_of_seen

pub returns-clause-definitely : goal.returns-clause-definitely
returns-clause-definitely c = definitely_of_seen

pub returns-clause-set : goal.returns-clause-set
returns-clause-set c = seen_are_a_set
