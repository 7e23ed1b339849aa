-- Less by 1 or more is less, and more by 1 or more is more.
use Rattle.std.proofs.Common.{sym, subst}
use Rattle.pd_pred.specs.Trees.{comparison_view}
use Rattle.pd_pred.specs.declared.tree.Comparison.{Comparison}
use Rattle.wide_slice.specs.Steps.{IsInside}
use Rattle.wide_sums.specs.Literals.{literal_view}
use Rattle.wide_sums.specs.Verdicts.{IsNotExcludedAs}
use Rattle.wide_sums.proofs.ByExcess.{above_one, below_one, from_not}
use Rattle.wide_sums.proofs.excluded.is_excluded.Goals as goal

pub returns-in_ok-below-in-IsLess-clause-no : goal.returns-in_ok-below-in-IsLess-clause-no
returns-in_ok-below-in-IsLess-clause-no g c not_below =
    let r = c.args.at.now.computation.now in
    let InSlice = IsInside r.events (g.G.GoodCounts.good c.args.at.now.wanted.now) in
    let l = literal_view c.args.literal.now in
    subst (λ (v : Comparison). IsNotExcludedAs (comparison_view v) InSlice r l) (sym c.in-IsLess.is)
    (below_one InSlice r l (c.in_ok-below-in-IsLess.ensures.some
    (from_not c.in_ok-below-in-IsLess.below not_below)))

pub returns-in_ok-above-in-IsGreater-clause-no : goal.returns-in_ok-above-in-IsGreater-clause-no
returns-in_ok-above-in-IsGreater-clause-no g c not_above =
    let r = c.args.at.now.computation.now in
    let InSlice = IsInside r.events (g.G.GoodCounts.good c.args.at.now.wanted.now) in
    let l = literal_view c.args.literal.now in
    subst (λ (v : Comparison). IsNotExcludedAs (comparison_view v) InSlice r l) (sym c.in-IsGreater.is)
    (above_one InSlice r l (c.in_ok-above-in-IsGreater.ensures.some
    (from_not c.in_ok-above-in-IsGreater.above not_above)))
