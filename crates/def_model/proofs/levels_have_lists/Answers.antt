-- Each level has a list of its cuts, and one of its avoiding cuts.
use Rattle.def_model.proofs.LevelsListed.{level_has_list, avoiding_has_list}
use Rattle.def_model.proofs.levels_have_lists.Goals as goal

pub returns-clause-cuts : goal.returns-clause-cuts
returns-clause-cuts c = level_has_list

pub returns-clause-avoiding : goal.returns-clause-avoiding
returns-clause-avoiding c = avoiding_has_list
