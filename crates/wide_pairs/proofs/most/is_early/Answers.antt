-- By the clocks of the event.
use Rattle.std.proofs.Common.{◌≤◌, arith}
use Rattle.std.proofs.lemmas.Bool.{le-leb, leb-true}
use Rattle.pd_match.specs.Views.{place_view}
use Rattle.wide_pairs.proofs.MostCuts.{at_most, not_up_to}
use Rattle.wide_pairs.proofs.most.is_early.Goals as goal

pub returns-then-clock-i : goal.returns-then-clock-i
returns-then-clock-i c = (
  λ h. (
    not_up_to c.args.computation.now.events (place_view c.args.place) c.args.p c.args.i c.clock.result c.requires.event
        c.clock.ensures c.if-clock-i.true,
    not_up_to c.args.computation.now.events (place_view c.args.place) c.args.q c.args.j c.clock-then-clock-i.result
        c.requires.event c.clock-then-clock-i.ensures (leb-true c.clock-then-clock-i.result c.args.j h),
  ),
  λ early. le-leb c.clock-then-clock-i.result c.args.j
      (at_most c.args.computation.now.events (place_view c.args.place) c.args.q c.args.j c.clock-then-clock-i.result
      c.clock-then-clock-i.ensures early.1),
)

pub returns-else-clock-i : goal.returns-else-clock-i
returns-else-clock-i c = (
  λ h. let le : c.clock.result ≤ c.args.i = leb-true c.clock.result c.args.i h in
      absurd (omega (arith, le, c.if-clock-i.false)),
  λ early. le-leb c.clock.result c.args.i
      (at_most c.args.computation.now.events (place_view c.args.place) c.args.p c.args.i c.clock.result c.clock.ensures
      early.0),
)
