-- Every cut lies on an observation.
use Rattle.def_model.proofs.Paths.{every_cut_is_observed, possibly_both_ways}
use Rattle.def_model.proofs.observed.Goals as goal

pub returns-clause-every_cut : goal.returns-clause-every_cut
returns-clause-every_cut c = every_cut_is_observed

pub returns-clause-both_ways : goal.returns-clause-both_ways
returns-clause-both_ways c = possibly_both_ways
