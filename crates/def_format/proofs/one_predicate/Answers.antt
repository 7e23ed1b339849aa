-- A text is one predicate.
use Rattle.def_format.proofs.OneAnswer.{one_predicate_lem}
use Rattle.def_format.proofs.one_predicate.Goals as goal

pub returns : goal.returns
returns c = one_predicate_lem
