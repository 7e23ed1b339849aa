-- No text is a predicate and refused.
use Rattle.def_format.proofs.OneAnswer.{predicate_not_refused_lem}
use Rattle.def_format.proofs.predicate_not_refused.Goals as goal

pub returns : goal.returns
returns c = predicate_not_refused_lem
