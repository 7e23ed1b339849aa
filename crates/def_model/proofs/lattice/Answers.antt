-- Meet, join and the step down.
use Rattle.def_model.proofs.MeetAndJoin.{meet_consistent, join_consistent}
use Rattle.def_model.proofs.Undoing.{step_down, cut_between}
use Rattle.def_model.proofs.lattice.Goals as goal

pub returns-clause-meet_and_join : goal.returns-clause-meet_and_join
returns-clause-meet_and_join c computation a b oka okb =
    (meet_consistent computation a b oka okb, join_consistent computation a b oka okb)

pub returns-clause-step_down : goal.returns-clause-step_down
returns-clause-step_down c = step_down

pub returns-clause-between : goal.returns-clause-between
returns-clause-between c = cut_between
