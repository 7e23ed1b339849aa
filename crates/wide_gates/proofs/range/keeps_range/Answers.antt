-- The clock is the low end, and the high end stays.
use Rattle.std.proofs.Common.{subst}
use Rattle.def_model.specs.Order.{IsClock}
use Rattle.wide_gates.specs.Spots.{event_of}
use Rattle.wide_gates.proofs.Beside.{none_later}
use Rattle.wide_gates.proofs.Sharing.{has_other, none_of_range}
use Rattle.wide_gates.proofs.range.keeps_range.Goals as goal

pub returns-then-clock-range : goal.returns-then-clock-range
returns-then-clock-range c = λ is.
    has_other c.args.computation.now.events c.limits.ensures.acyclic c.args.spot c.args.q c.args.range c.requires.event
    c.if-q-spot.false
    (subst (IsClock c.args.computation.now.events (event_of c.args.spot) c.args.q) c.if-clock-range.true
    c.clock.ensures)
    (record {
      none_before =
          none_later c.args.computation.now.events (event_of c.args.last) (event_of c.args.spot) c.args.q
          c.args.range.high c.requires.last c.requires.same c.requires.later
          (none_of_range c.args.computation.now.events c.args.last c.args.q c.args.range c.requires.range);
      next = c.is_high.ensures is;
    })
