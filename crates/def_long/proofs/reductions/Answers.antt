-- The laws stand in `Reduced` and `RenamedViews`.
use Rattle.def_long.proofs.Reduced.{avoiding_of_reduction, cut_of_reduction, definitely_of_reduction, possibly_of_reduction}
use Rattle.def_long.proofs.RenamedViews.{same_views_reduce}
use Rattle.def_long.proofs.reductions.Goals as goal

pub returns-clause-possibly : goal.returns-clause-possibly
returns-clause-possibly c = possibly_of_reduction

pub returns-clause-definitely : goal.returns-clause-definitely
returns-clause-definitely c = definitely_of_reduction

pub returns-clause-cut : goal.returns-clause-cut
returns-clause-cut c = cut_of_reduction

pub returns-clause-avoiding : goal.returns-clause-avoiding
returns-clause-avoiding c = avoiding_of_reduction

pub returns-clause-views : goal.returns-clause-views
returns-clause-views c = same_views_reduce
