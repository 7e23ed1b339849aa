-- A run without some of its messages is well-formed.
use Rattle.judge_causes.proofs.ReducedCuts.{well_formed}
use Rattle.judge_causes.proofs.laws.what_is_left.Goals as goal

pub returns : goal.returns
returns c = λ version is_kept c. well_formed is_kept version c
