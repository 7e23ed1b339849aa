-- A cut and its counts determine each other.
use Rattle.def_model.proofs.CutsAndCounts.{counts_of_cut, cut_of_counts, adds_place, adds_event}
use Rattle.def_model.proofs.cuts_and_counts.Goals as goal

pub returns-clause-of_cut : goal.returns-clause-of_cut
returns-clause-of_cut c = counts_of_cut

pub returns-clause-of_counts : goal.returns-clause-of_counts
returns-clause-of_counts c = cut_of_counts

pub returns-clause-one_more : goal.returns-clause-one_more
returns-clause-one_more c computation old new ok_old ok_new =
    (adds_place old new, adds_event computation old new ok_old ok_new)
