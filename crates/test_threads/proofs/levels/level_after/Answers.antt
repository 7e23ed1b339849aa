-- The cuts of the next level are consistent.
use Rattle.def_model.proofs.ListedCuts.{next_consistent}
use Rattle.test_threads.proofs.levels.level_after.Goals as goal

pub returns-in-Ok : goal.returns-in-Ok
returns-in-Ok c =
    next_consistent c.args.computation.now.events c.args.level.now.cuts c.in-Ok.next.cuts c.in-Ok.ensures.list
