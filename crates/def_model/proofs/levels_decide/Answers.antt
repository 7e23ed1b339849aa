-- The levelled walk equals quantification over observations.
use Rattle.def_model.proofs.Paths.{free_level_decides, path_is_found, path_avoids}
use Rattle.def_model.proofs.levels_decide.Goals as goal

pub returns-clause-free : goal.returns-clause-free
returns-clause-free c = free_level_decides

pub returns-clause-found : goal.returns-clause-found
returns-clause-found c = path_is_found

pub returns-clause-avoids : goal.returns-clause-avoids
returns-clause-avoids c = path_avoids
