-- A cut that doesn't fit, doesn't come before the best one or isn't good changes nothing.
use Rattle.std.proofs.Common.{IfSome, List, Option, ℕ, Some, None}
use Rattle.std.proofs.lemmas.Bool.{iff_false}
use Rattle.def_model.specs.Cuts.{FitsProcesses}
use Rattle.def_model.specs.Predicates.{Predicate, Recorded}
use Rattle.pd_pred.specs.Views.{predicate_view}
use Rattle.wide_gates.specs.Seen.{IsGood}
use Rattle.wide_gates.proofs.SeenCuts.{best_stays, cut_is_best}
use Rattle.wide_gates.proofs.seen.better.Goals as goal

-- what is good fits
good_fits : (r : Recorded) (predicate : Predicate) (best : Option (List ℕ)) → IfSome best (IsGood r predicate)
    → IfSome best (FitsProcesses r.events)
good_fits r predicate None good = tt
good_fits r predicate (Some cut) good = good.0.fits

pub returns-then-not-fits : goal.returns-then-not-fits
returns-then-not-fits c =
    best_stays c.args.computation.now (predicate_view c.args.pred.now) c.args.best c.args.cut c.requires
    (λ w. iff_false c.fits.ensures (search) w.0.0.fits)

pub is_before_best-requires-clause-best : goal.is_before_best-requires-clause-best
is_before_best-requires-clause-best c =
    good_fits c.args.computation.now (predicate_view c.args.pred.now) c.args.best c.requires

pub returns-then-not-is_before_best : goal.returns-then-not-is_before_best
returns-then-not-is_before_best c =
    best_stays c.args.computation.now (predicate_view c.args.pred.now) c.args.best c.args.cut c.requires
    (λ w. iff_false c.is_before_best.ensures (search) w.1)

pub returns-then-not-is_good : goal.returns-then-not-is_good
returns-then-not-is_good c =
    best_stays c.args.computation.now (predicate_view c.args.pred.now) c.args.best c.args.cut c.requires
    (λ w. iff_false c.is_good.ensures (search) w.0)

pub returns : goal.returns
returns c =
    cut_is_best c.args.computation.now (predicate_view c.args.pred.now) c.args.best c.args.cut
    (c.is_before_best.ensures.0 (search)) (c.is_good.ensures.0 (search))
