-- Which cuts avoid.
use Rattle.def_model.proofs.AvoidingCuts.{all_avoid, avoid_at_first_hit, avoid_by_undoing}
use Rattle.def_model.proofs.avoidance.Goals as goal

pub returns-clause-all : goal.returns-clause-all
returns-clause-all c = all_avoid

pub returns-clause-first_hit : goal.returns-clause-first_hit
returns-clause-first_hit c = avoid_at_first_hit

pub returns-clause-undoing : goal.returns-clause-undoing
returns-clause-undoing c = avoid_by_undoing
