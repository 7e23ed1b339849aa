-- The level after the greatest cut, if there is one.
use Rattle.std.proofs.Common.{◌≡◌, ℕ, ◌+◌, ◌≤◌, sum, sym, ap, ◌∙◌, subst, arith}
use Rattle.def_model.specs.Answers.{IsLeastFree}
use Rattle.def_model.specs.Cuts.{total}
use Rattle.def_model.proofs.Steps.{sum_within}
use Rattle.wide_conjunctions.specs.Clauses.{IsMostBefore}
use Rattle.wide_conjunctions.proofs.clause_level.free_level.Goals as goal

pub events-count-requires : goal.events-count-requires
events-count-requires g c =
    let most : IsMostBefore c.args.computation.now.events (g.G.GoodCounts.good c.args.wanted.now) c.in-Some.cut =
    rw c.in-Some.is at c.in_ok-found.ensures.some in
    let within : sum c.in-Some.cut ≤ total c.args.computation.now.events =
    sum_within c.args.computation.now.events c.in-Some.cut most.consistent in
    omega (arith, within, ap sum c.counts.ensures, c.total-total.ensures.sum, c.total-total.ensures.small)

pub returns-then-count-total-clause-none : goal.returns-then-count-total-clause-none
returns-then-count-total-clause-none g c = λ test clause.
    c.clauses.ensures.none c.args.computation.now.events test (g.G.GoodCounts.good c.args.wanted.now) clause
    c.in-Some.cut (rw c.in-Some.is at c.in_ok-found.ensures.some)
    (omega (
      arith,
      c.if-count-total.true,
      c.events-count.ensures,
      ap sum c.counts.ensures,
      c.total-total.ensures.sum,
    ))

pub returns-clause-some : goal.returns-clause-some
returns-clause-some g c = λ test clause.
    let count : c.events-count.result ≡ sum c.in-Some.cut = c.events-count.ensures ∙ ap sum c.counts.ensures in
    let after = c.clauses.ensures.after c.args.computation.now.events c.limits.ensures.acyclic test
    (g.G.GoodCounts.good c.args.wanted.now) clause c.in-Some.cut (rw c.in-Some.is at c.in_ok-found.ensures.some) in (
      subst (λ (n : ℕ). IsLeastFree c.args.computation.now.events test (n + 1)) (sym count) after.0,
      after.1 (omega (arith, count, c.if-count-total.false, c.total-total.ensures.sum)),
    )
