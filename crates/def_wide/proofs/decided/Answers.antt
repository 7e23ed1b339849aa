-- What decides Possibly as a whole does so by its parts, and Definitely is decided with it.
use Rattle.def_wide.proofs.Wholes.{definitely_after_possibly, whole_is_decided}
use Rattle.def_wide.proofs.decided.Goals as goal

pub returns-clause-whole : goal.returns-clause-whole
returns-clause-whole c = whole_is_decided

pub returns-clause-definitely : goal.returns-clause-definitely
returns-clause-definitely c = definitely_after_possibly
