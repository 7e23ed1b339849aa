-- The comparison is the literal's.
use Rattle.std.proofs.Common.{subst}
use Rattle.def_model.specs.Predicates.{Comparison}
use Rattle.wide_slice.specs.Steps.{IsInside}
use Rattle.wide_sums.specs.Literals.{literal_view}
use Rattle.wide_sums.specs.Verdicts.{IsNotExcludedAs}
use Rattle.wide_sums.proofs.solved.verdict_of_one.Goals as goal

pub returns-then-solved : goal.returns-then-solved
returns-then-solved g c =
    let r = c.args.at.now.computation.now in
    let InSlice = IsInside r.events (g.G.GoodCounts.good c.args.at.now.wanted.now) in
    let l = literal_view c.args.literal.now in (
      subst (λ (v : Comparison). IsNotExcludedAs v InSlice r l) c.comparison_of-comparison.ensures
          (c.in_ok-excluded.ensures.no c.if-excluded.false),
      λ equals. c.in_ok-solved.ensures.yes c.if-solved.true,
    )
