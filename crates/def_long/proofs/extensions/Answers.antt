-- The laws stand in `WalkExtensions` and `Definite`.
use Rattle.def_long.proofs.Definite.{extension_has_walk}
use Rattle.def_long.proofs.WalkExtensions.{walk_has_extension}
use Rattle.def_long.proofs.extensions.Goals as goal

pub returns-clause-of_walk : goal.returns-clause-of_walk
returns-clause-of_walk c w is kept cuts walk = walk_has_extension w kept cuts walk

pub returns-clause-has_walk : goal.returns-clause-has_walk
returns-clause-has_walk c w is kept order so = extension_has_walk w kept order so is
