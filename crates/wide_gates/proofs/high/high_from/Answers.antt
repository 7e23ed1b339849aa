-- One event more that the event didn't happen before.
use Rattle.std.proofs.Common.{◌≡◌, ℕ, arith, subst}
use Rattle.wide_gates.specs.Highs.{IsHigh}
use Rattle.pd_match.specs.Views.{place_view}
use Rattle.std.proofs.lemmas.Bool.{iff_false}
use Rattle.wide_gates.proofs.Beside.{high_all, none_more}
use Rattle.wide_gates.proofs.high.high_from.Goals as goal

pub loop-high-preserved : goal.loop-high-preserved
loop-high-preserved c =
    none_more c.args.computation.now.events (place_view c.args.place) c.args.q c.loop-high.high
    c.loop-high.invariant (omega (arith, c.events-events.ensures, c.loop-high-test.true))
    (λ before. iff_false c.before-in-loop-high.ensures c.if-before.false before)

pub returns : goal.returns
returns c =
    subst (λ (n : ℕ). IsHigh c.args.computation.now.events (place_view c.args.place) c.args.q n)
    (let e : c.loop-high.high ≡ c.events-events.result =
    omega (arith, c.events-events.ensures, c.loop-high-test.false, c.loop-high.invariant.within) in e)
    (high_all c.args.computation.now.events (place_view c.args.place) c.args.q c.loop-high.high
    c.loop-high.invariant (omega (arith, c.events-events.ensures, c.loop-high-test.false)))
