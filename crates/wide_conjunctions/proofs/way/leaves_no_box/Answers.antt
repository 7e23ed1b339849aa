-- What is left without the last event of a process.
use Rattle.std.proofs.Common.{ℕ, List, sym, ◌∙◌, subst}
use Rattle.wide_conjunctions.specs.Ways.{HasNoneEarlier}
use Rattle.wide_conjunctions.proofs.LastIntervals.{none_returned}
use Rattle.wide_conjunctions.proofs.way.leaves_no_box.Goals as goal

pub has_box-requires-clause-none_earlier : goal.has_box-requires-clause-none_earlier
has_box-requires-clause-none_earlier g c =
    subst (λ (low : List ℕ). HasNoneEarlier c.args.computation.now.events (g.G.GoodCounts.good c.args.wanted.now) low
    c.args.p) (sym (c.counts-2.ensures ∙ c.without_last-low.ensures))
    (none_returned c.args.computation.now.events (g.G.GoodCounts.good c.args.wanted.now) c.args.cut.now c.args.p
    c.requires.consistent c.requires.none (c.can_undo.ensures.answer.0 c.if-not-can_undo.false).0)
