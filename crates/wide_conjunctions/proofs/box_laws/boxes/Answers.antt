-- What boxes decide.
use Rattle.wide_conjunctions.proofs.BoxSteps.{avoids_without_box}
use Rattle.wide_conjunctions.proofs.LevelAfter.{free_after_box, not_without_box}
use Rattle.wide_conjunctions.proofs.WaysBack.{path_of_way}
use Rattle.wide_conjunctions.proofs.box_laws.boxes.Goals as goal

pub returns-clause-avoids : goal.returns-clause-avoids
returns-clause-avoids c = avoids_without_box

pub returns-clause-after : goal.returns-clause-after
returns-clause-after c = free_after_box

pub returns-clause-none : goal.returns-clause-none
returns-clause-none c = not_without_box

pub returns-clause-path : goal.returns-clause-path
returns-clause-path c = path_of_way
