-- The cuts of the keys are the avoiding cuts.
use Rattle.std.proofs.Common.{sym, subst}
use Rattle.pd_level.specs.Levels.{Levelled}
use Rattle.def_model.specs.Answers.{IsListOf}
use Rattle.def_model.specs.Observations.{IsAvoiding}
use Rattle.walk_marks.proofs.marks.Marks.to_level.Goals as goal

pub returns-clause-list : goal.returns-clause-list
returns-clause-list g c events test whole marking =
    subst (λ (l : Levelled). IsListOf (IsAvoiding events test c.args.level.now.number) l.cuts) (sym c.level_of.ensures)
    (rw c.processes.ensures (c.in_ok-keys.ensures.list events test whole marking))
