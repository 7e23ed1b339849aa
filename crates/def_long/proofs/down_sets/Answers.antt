-- Down-sets of the kept events.
use Rattle.def_long.proofs.LeastCuts.{cut_has_down_set, down_set_has_cut}
use Rattle.def_long.proofs.Truths.{one_truth}
use Rattle.def_long.proofs.down_sets.Goals as goal

pub returns-clause-of_cut : goal.returns-clause-of_cut
returns-clause-of_cut c = cut_has_down_set

pub returns-clause-least : goal.returns-clause-least
returns-clause-least c = down_set_has_cut

pub returns-clause-truth : goal.returns-clause-truth
returns-clause-truth c = one_truth
