-- The law stands in `Truths`.
use Rattle.def_long.proofs.Truths.{possibly_by_down_sets}
use Rattle.def_long.proofs.possibly_of_down_sets.Goals as goal

pub returns : goal.returns
returns c = possibly_by_down_sets
