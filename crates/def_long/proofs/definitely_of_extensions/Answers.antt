-- The law stands in `Definite`.
use Rattle.def_long.proofs.Definite.{definitely_by_extensions}
use Rattle.def_long.proofs.definitely_of_extensions.Goals as goal

pub returns : goal.returns
returns c = definitely_by_extensions
