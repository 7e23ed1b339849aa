-- There is no picture only if a process isn't found.
use Rattle.std.proofs.Common.{All, List, subst}
use Rattle.def_format.specs.Names.{ProcessNames}
use Rattle.pd_report.specs.Views.{named_places_view}
use Rattle.judge_draw.specs.Cycles.{IsOfProcess}
use Rattle.judge_draw.proofs.refused.draw_places.Goals as goal

pub returns-in-None : goal.returns-in-None
returns-in-None c =
    subst (λ (names : List ProcessNames). ¬ All (IsOfProcess names) (named_places_view c.args.places.now))
    c.names.ensures (rw c.in-None.is at c.in_ok-found.ensures)
