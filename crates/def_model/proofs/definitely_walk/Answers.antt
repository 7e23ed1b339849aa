-- What a walk for Definitely answers.
use Rattle.def_model.specs.Observations.{IsAvoiding}
use Rattle.def_model.proofs.WalkSteps.{not_more, definitely_free, definitely_path, undone_by_list, some_undone}
use Rattle.def_model.proofs.definitely_walk.Goals as goal

pub returns-clause-short : goal.returns-clause-short
returns-clause-short c computation test w k = not_more (IsAvoiding computation test k) w

pub returns-clause-free : goal.returns-clause-free
returns-clause-free c = definitely_free

pub returns-clause-path : goal.returns-clause-path
returns-clause-path c = definitely_path

pub returns-clause-undone : goal.returns-clause-undone
returns-clause-undone c = undone_by_list

pub returns-clause-some_undone : goal.returns-clause-some_undone
returns-clause-some_undone c = some_undone
