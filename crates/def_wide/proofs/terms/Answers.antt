-- The law stands in `TermMeanings`.
use Rattle.def_wide.proofs.TermMeanings.{terms_mean}
use Rattle.def_wide.proofs.terms.Goals as goal

pub returns : goal.returns
returns c = terms_mean
