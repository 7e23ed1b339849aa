-- The event's own process has one count, and another one any between what happened before and what happened after.
use Rattle.std.proofs.Common.{Bool, ap, sym}
use Rattle.wide_gates.specs.Ends.{bound_of}
use Rattle.wide_gates.specs.Ranges.{IsRange}
use Rattle.wide_gates.specs.declared.range.Range.{Range}
use Rattle.wide_gates.proofs.Beside.{other_range}
use Rattle.wide_gates.proofs.EndCounts.{own_bound}
use Rattle.wide_gates.proofs.ends.bound_at.Goals as goal
use Rattle.wide_gates.proofs.ends.bound_at.Goals.{After-clock-low}

pub returns-then-spot-q : goal.returns-then-spot-q
returns-then-spot-q c =
    own_bound c.args.computation.now.events c.args.spot c.args.greatest c.args.q c.own.result c.requires.event
    (sym c.if-spot-q.true) c.own.ensures

range_of : After-clock-low → Range
range_of c = record { low = c.clock-low.result; high = c.args.high }

is_range : (c : After-clock-low) → IsRange c.args.computation.now.events c.args.spot c.args.q (range_of c)
unfolding range_of
is_range c =
    other_range c.args.computation.now.events c.limits.ensures.acyclic c.args.spot c.args.q c.clock-low.result
    c.args.high c.requires.event (λ same. c.if-spot-q.false (sym same)) c.clock-low.ensures c.requires.high

pub returns-then-greatest : goal.returns-then-greatest
unfolding range_of
returns-then-greatest c =
    let at = (goal.at.returns-then-greatest c).After-clock-low in
    (range_of at, is_range at, sym (ap (λ (b : Bool). bound_of b (range_of at)) c.if-greatest.true))

pub returns-else-greatest : goal.returns-else-greatest
unfolding range_of
returns-else-greatest c =
    let at = (goal.at.returns-else-greatest c).After-clock-low in
    (range_of at, is_range at, sym (ap (λ (b : Bool). bound_of b (range_of at)) c.if-greatest.false))
