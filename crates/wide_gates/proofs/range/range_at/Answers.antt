-- Between what happened before the event and what it happened before.
use Rattle.std.proofs.Common.{subst, sym}
use Rattle.def_model.specs.Order.{IsClock}
use Rattle.wide_gates.specs.Highs.{IsHigh}
use Rattle.wide_gates.specs.Spots.{event_of}
use Rattle.wide_gates.proofs.Sharing.{has_other}
use Rattle.wide_gates.proofs.range.range_at.Goals as goal

pub returns : goal.returns
returns c =
    has_other c.args.computation.now.events c.limits.ensures.acyclic c.args.spot c.args.q
    (record { low = c.short.result; high = c.short-2.result }) c.requires.event c.if-q-spot.false
    (subst (IsClock c.args.computation.now.events (event_of c.args.spot) c.args.q) (sym c.short.ensures)
    c.clock-low.ensures)
    (subst (IsHigh c.args.computation.now.events (event_of c.args.spot) c.args.q) (sym c.short-2.ensures)
    c.high_from-high.ensures)
