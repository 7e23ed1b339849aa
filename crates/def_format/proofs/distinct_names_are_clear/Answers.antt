-- If no two processes have one name, and no two variables of a process, two names together refer to one variable at
-- most.
use Rattle.def_format.proofs.DistinctNames.{clear_names}
use Rattle.def_format.proofs.distinct_names_are_clear.Goals as goal

pub returns : goal.returns
returns c = clear_names
