-- Each level's avoiding cuts lead to those of the next.
use Rattle.def_model.proofs.Paths.{next_avoiding, avoiding_level}
use Rattle.def_model.proofs.LevelLists.{first_avoiding_list, next_avoiding_list}
use Rattle.def_model.proofs.avoiding_levels.Goals as goal

pub returns-clause-step : goal.returns-clause-step
returns-clause-step c = next_avoiding

pub returns-clause-first : goal.returns-clause-first
returns-clause-first c = first_avoiding_list

pub returns-clause-next : goal.returns-clause-next
returns-clause-next c = next_avoiding_list

pub returns-clause-level : goal.returns-clause-level
returns-clause-level c = avoiding_level
