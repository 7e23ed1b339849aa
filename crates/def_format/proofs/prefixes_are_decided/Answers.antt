-- Of any tokens it can be reported whether they begin a predicate's.
use Rattle.def_format.proofs.Completions.{prefixes_are_decided_lem}
use Rattle.def_format.proofs.prefixes_are_decided.Goals as goal

pub returns : goal.returns
returns c = prefixes_are_decided_lem
