-- One take of the payer more is looked at.
use Rattle.std.proofs.Common.{◌≡◌, ◌-◌, ◌<◌, ◌≤◌, ℕ, suc, List, length, sym, subst, arith}
use Rattle.std.proofs.lemmas.List.{get_or_read}
use Rattle.wide_flow.specs.declared.takes.Take.{Take}
use Rattle.wide_flow.specs.declared.reach.Reached.{Reached}
use Rattle.wide_flow.specs.Flows.{no_take, take_at}
use Rattle.wide_flow.specs.Searches.{HasReached}
use Rattle.wide_flow.proofs.ReachSteps.{goes_on_both, scan_all, scan_own, scan_within, still_reached}
use Rattle.wide_flow.proofs.reach.reach_takers.Goals as goal

pub loop-at-preserved-in_ok-reach : goal.loop-at-preserved-in_ok-reach
loop-at-preserved-in_ok-reach c =
    let takes = c.args.flow.now.takes.items in
    let linked = c.requires.flow.takes.linked in
    let loop = c.loop-at.invariant in
    let by = c.loop-at.at - 1 in
    let here : c.loop-at.at ≡ suc by = omega (arith, c.loop-at-test.true) in
    let e : c.index-take.result.now ≡ take_at takes by =
    get_or_read takes by _ (omega (arith, here, loop.within)) c.index-take.ensures no_take in
    let last = c.args.flow.now.last.items in
    let reached = c.reach.new.reached.items in
    record {
      within =
          subst (λ (t : Take). t.before ≤ length takes) (sym e)
          (scan_within takes last linked c.args.payer c.loop-at.at by here loop.within loop.own);
      own =
          subst (λ (t : Take). (i : ℕ) → t.before ≡ suc i → (take_at takes i).payer ≡ c.args.payer) (sym e)
          (scan_own takes last linked c.args.payer c.loop-at.at by here loop.within loop.own);
      reached = c.in_ok-reach.ensures.reached;
      on = goes_on_both c.args.reached.now.items c.loop-at.reached.items reached loop.on c.in_ok-reach.ensures.on;
      takers =
          subst
          (λ (t : Take). (i : ℕ) → t.before ≤ i → i < length takes → (take_at takes i).payer ≡ c.args.payer
          → HasReached reached (take_at takes i).taker)
          (sym e)
          (scan_all takes last linked c.args.payer c.loop-at.at by here loop.within loop.own (HasReached reached)
          (λ i le lt pays.
          still_reached c.loop-at.reached.items reached (take_at takes i).taker c.in_ok-reach.ensures.on
          (loop.takers i le lt pays))
          c.in_ok-reach.ensures.there);
    }

pub loop-at-preserved : goal.loop-at-preserved
loop-at-preserved c =
    let takes = c.args.flow.now.takes.items in
    let linked = c.requires.flow.takes.linked in
    let loop = c.loop-at.invariant in
    let by = c.loop-at.at - 1 in
    let here : c.loop-at.at ≡ suc by = omega (arith, c.loop-at-test.true) in
    let e : c.index-take.result.now ≡ take_at takes by =
    get_or_read takes by _ (omega (arith, here, loop.within)) c.index-take.ensures no_take in
    let was : HasReached c.loop-at.reached.items c.index-take.result.now.taker =
    subst (λ (xs : List Reached). HasReached xs c.index-take.result.now.taker) c.deref.ensures.value
    (c.is_reached.ensures.0 c.if-not-is_reached.false) in
    let last = c.args.flow.now.last.items in
    let reached = c.loop-at.reached.items in
    record {
      within =
          subst (λ (t : Take). t.before ≤ length takes) (sym e)
          (scan_within takes last linked c.args.payer c.loop-at.at by here loop.within loop.own);
      own =
          subst (λ (t : Take). (i : ℕ) → t.before ≡ suc i → (take_at takes i).payer ≡ c.args.payer) (sym e)
          (scan_own takes last linked c.args.payer c.loop-at.at by here loop.within loop.own);
      reached = loop.reached;
      on = loop.on;
      takers =
          subst
          (λ (t : Take). (i : ℕ) → t.before ≤ i → i < length takes → (take_at takes i).payer ≡ c.args.payer
          → HasReached reached (take_at takes i).taker)
          (sym e)
          (scan_all takes last linked c.args.payer c.loop-at.at by here loop.within loop.own (HasReached reached)
          loop.takers (subst (λ (t : Take). HasReached reached t.taker) e was));
    }
