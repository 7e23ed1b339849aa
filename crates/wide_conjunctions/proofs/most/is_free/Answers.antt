-- One process more is looked at.
use Rattle.std.proofs.Common.{ℕ, ◌<◌, get_or}
use Rattle.pd_match.specs.Views.{place_view}
use Rattle.def_model.specs.Order.{IsClock}
use Rattle.wide_conjunctions.proofs.MostBefore.{one_more}
use Rattle.wide_conjunctions.proofs.most.is_free.Goals as goal

pub loop-q-preserved : goal.loop-q-preserved
loop-q-preserved c =
    one_more (λ k. (n : ℕ) × IsClock c.args.computation.now.events (place_view c.args.place) k n
    × (n < get_or c.args.firsts.now k 0)) c.loop-q.q c.loop-q.invariant
    (c.clock.result, c.clock.ensures, c.if-clock-firsts.false)
