-- The cut with all events is consistent.
use Rattle.std.proofs.Common.{ℕ, List, sym, subst}
use Rattle.def_model.specs.Cuts.{IsConsistent}
use Rattle.wide_conjunctions.proofs.LevelAfter.{full_consistent}
use Rattle.wide_conjunctions.proofs.way.avoiding_path.Goals as goal

pub holds-requires : goal.holds-requires
holds-requires g c =
    subst (λ (cut : List ℕ). IsConsistent c.args.computation.now.events cut) (sym c.whole_cut-cut.ensures)
    (full_consistent c.args.computation.now.events)
