-- The range of what is looked for is halved.
use Rattle.std.proofs.Common.{◌+◌, ◌-◌, ◌/◌, ◌≤◌, ◌<◌, ◌≡◌, ℕ, refl, arith}
use Rattle.std.proofs.lemmas.Bool.{false≢true}
use Rattle.wide_pairs.proofs.MostCuts.{early_below, most_count_found}
use Rattle.wide_pairs.proofs.most.most_count.Goals as goal

pub loop-low-preserved-then-is_early : goal.loop-low-preserved-then-is_early
loop-low-preserved-then-is_early c =
    let middle : ℕ = c.loop-low.low + (c.loop-low.high - c.loop-low.low + 1) / 2 in
    let order : middle ≤ c.loop-low.high = omega (arith, c.loop-low-test.true) in
    record {
      order = order;
      within = c.loop-low.invariant.within;
      early = λ n some le.
          early_below c.args.computation.now.events c.args.p c.args.q c.args.i c.args.j c.args.r n middle
          (c.if-is_early.ensures.0 refl) some le (omega (arith, order, c.loop-low.invariant.within));
      late = c.loop-low.invariant.late;
    }

pub loop-low-preserved : goal.loop-low-preserved
loop-low-preserved c =
    let middle : ℕ = c.loop-low.low + (c.loop-low.high - c.loop-low.low + 1) / 2 in
    let order : middle ≤ c.loop-low.high = omega (arith, c.loop-low-test.true) in
    let some : c.loop-low.low < middle = omega (arith, c.loop-low-test.true) in
    record {
      order = omega (arith, some);
      within = omega (arith, order, c.loop-low.invariant.within);
      early = c.loop-low.invariant.early;
      late = λ n lt le early. false≢true (c.if-is_early.ensures.1
          (early_below c.args.computation.now.events c.args.p c.args.q c.args.i c.args.j c.args.r middle n early
          (omega (arith, some)) (omega (arith, lt, some)) le));
    }

pub returns : goal.returns
returns c =
    let same : c.loop-low.high ≡ c.loop-low.low = omega (arith, c.loop-low-test.false, c.loop-low.invariant.order) in
    most_count_found c.args.computation.now.events c.args.p c.args.q c.args.i c.args.j c.args.r c.loop-low.low
    (omega (arith, same, c.loop-low.invariant.within)) c.loop-low.invariant.early
    (λ n lt le. c.loop-low.invariant.late n (omega (arith, same, lt)) le)
