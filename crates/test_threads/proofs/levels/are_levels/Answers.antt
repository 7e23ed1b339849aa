-- The empty cut is consistent.
use Rattle.std.proofs.Common.{[], ◌∷◌, All, sym, subst}
use Rattle.def_model.specs.Cuts.{IsConsistent, empty_cut}
use Rattle.def_model.proofs.ListedCuts.{level_consistent}
use Rattle.pd_level.specs.Levels.{Levelled}
use Rattle.test_threads.proofs.levels.are_levels.Goals as goal

pub loop-length-init : goal.loop-length-init
loop-length-init _ c =
    subst (λ (l : Levelled). All (IsConsistent c.args.computation.now.events) l.cuts) (sym c.in_ok-level.ensures)
    (level_consistent c.args.computation.now.events 0 (empty_cut c.args.computation.now.events ∷ [])
    (c.levels.ensures.first c.args.computation.now.events))
