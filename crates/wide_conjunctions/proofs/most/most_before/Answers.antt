-- The free events are those of the greatest cut in which no process has come to a good count.
use Rattle.std.proofs.Common.{List, ℕ, ◌<◌, get_or, length, sym, ◌∙◌, subst}
use Rattle.wide_conjunctions.specs.Clauses.{IsMostBefore}
use Rattle.wide_conjunctions.specs.Firsts.{AreFreeCounts}
use Rattle.wide_conjunctions.proofs.MostBefore.{is_most_before}
use Rattle.wide_conjunctions.proofs.most.most_before.Goals as goal

pub returns-clause-some : goal.returns-clause-some
returns-clause-some g c =
    let events = c.args.computation.now.events in
    let good = g.G.GoodCounts.good c.args.wanted.now in
    subst (λ (cut : List ℕ). IsMostBefore events good cut) (sym (c.in_ok-cut.ensures.ok ∙ c.deref-3.ensures.value))
    (is_most_before events good c.in_ok-firsts.firsts.items c.in_ok-counts.counts.items c.in_ok-firsts.ensures
    (subst (λ (firsts : List ℕ). (q : ℕ) → q < length firsts → 0 < get_or firsts q 0) c.deref.ensures.value
    (c.has_zero.ensures.none c.if-has_zero.false))
    (subst (λ (firsts : List ℕ). AreFreeCounts events firsts c.in_ok-counts.counts.items) c.deref-2.ensures.value
    c.in_ok-counts.ensures))
