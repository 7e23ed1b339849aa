-- What a walk for Possibly answers.
use Rattle.def_model.specs.Cuts.{IsOfLevel}
use Rattle.def_model.proofs.WalkSteps.{not_more, possibly_found, possibly_none, next_is_wide}
use Rattle.def_model.proofs.possibly_walk.Goals as goal

pub returns-clause-short : goal.returns-clause-short
returns-clause-short c computation w k = not_more (IsOfLevel computation k) w

pub returns-clause-found : goal.returns-clause-found
returns-clause-found c = possibly_found

pub returns-clause-none : goal.returns-clause-none
returns-clause-none c = possibly_none

pub returns-clause-wide : goal.returns-clause-wide
returns-clause-wide c = next_is_wide
