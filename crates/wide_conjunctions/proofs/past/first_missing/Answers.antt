-- One process more is looked at.
use Rattle.std.proofs.Common.{ℕ, ◌≤◌, get_or}
use Rattle.pd_match.specs.Views.{place_view}
use Rattle.def_model.specs.Order.{IsClock}
use Rattle.wide_conjunctions.proofs.MostBefore.{one_more}
use Rattle.wide_conjunctions.proofs.past.first_missing.Goals as goal

pub loop-p-preserved : goal.loop-p-preserved
loop-p-preserved c =
    one_more (λ k. (n : ℕ) × IsClock c.args.computation.now.events (place_view c.args.place) k n
    × (get_or c.args.counts.now k 0 ≤ n)) c.loop-p.p c.loop-p.invariant
    (c.clock.result, c.clock.ensures, c.if-clock-counts.false)
