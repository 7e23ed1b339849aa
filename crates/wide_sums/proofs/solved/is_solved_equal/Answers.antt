-- Each way to decide an `==`, and that none is left.
use mir.Syntax.{w128}
use Rattle.std.proofs.Common.{ℕ, List, ap, sym, ◌∙◌}
use Rattle.std.proofs.lemmas.Bool.{false≢true}
use Rattle.std.proofs.lemmas.Int.{to_z-of_z}
use Rattle.def_wide.specs.Sums.{excess}
use Rattle.wide_slice.specs.Steps.{IsInside}
use Rattle.wide_sums.specs.Literals.{literal_view}
use Rattle.wide_sums.specs.Verdicts.{never_above, never_below, by_steps}
use Rattle.wide_sums.proofs.ByExcess.{above_one, below_one, from_not, from_not_true, never_above_one, never_below_one}
use Rattle.wide_sums.proofs.solved.is_solved_equal.Goals as goal

pub returns-then-by_steps-clause-yes : goal.returns-then-by_steps-clause-yes
returns-then-by_steps-clause-yes g c found =
    let steps = c.in_ok-by_steps.ensures.yes c.if-by_steps.true in by_steps steps.0 steps.1

pub returns-then-not-above-clause-yes : goal.returns-then-not-above-clause-yes
returns-then-not-above-clause-yes g c found =
    never_above (never_above_one
    (IsInside c.args.at.now.computation.now.events (g.G.GoodCounts.good c.args.at.now.wanted.now))
    c.args.at.now.computation.now (literal_view c.args.literal.now)
    (c.in_ok-above.ensures.none c.if-not-above.true))

pub returns-clause-yes : goal.returns-clause-yes
returns-clause-yes g c found =
    never_below (never_below_one
    (IsInside c.args.at.now.computation.now.events (g.G.GoodCounts.good c.args.at.now.wanted.now))
    c.args.at.now.computation.now (literal_view c.args.literal.now)
    (c.in_ok-below.ensures.none (from_not_true c.in_ok-below.below found)))

pub returns-clause-no : goal.returns-clause-no
returns-clause-no g c not_found = record {
  above = above_one
      (IsInside c.args.at.now.computation.now.events (g.G.GoodCounts.good c.args.at.now.wanted.now))
      c.args.at.now.computation.now (literal_view c.args.literal.now)
      (c.in_ok-above.ensures.some c.if-not-above.false);
  below = below_one
      (IsInside c.args.at.now.computation.now.events (g.G.GoodCounts.good c.args.at.now.wanted.now))
      c.args.at.now.computation.now (literal_view c.args.literal.now)
      (c.in_ok-below.ensures.some (from_not c.in_ok-below.below not_found));
  not_at_least = λ is.
      false≢true
      (sym c.if-is_zero.false
      ∙ c.is_zero.ensures.1 (to_z-of_z w128 c.excess_at.result (record { sfits = c.excess_at.type_inv })
      ∙ (c.excess_at.ensures
      ∙ (ap (λ (counts : List ℕ). excess c.args.at.now.computation.now (literal_view c.args.literal.now) counts)
      c.least.ensures ∙ is))));
  not_by_steps = c.in_ok-by_steps.ensures.no c.if-by_steps.false;
}
