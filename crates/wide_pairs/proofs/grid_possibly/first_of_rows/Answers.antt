-- One count of the first process more.
use Rattle.std.proofs.Common.{◌≡◌, ◌+◌, ◌≤◌, ℕ, List, Option, IfSome, get_or, sum, sym, subst, arith}
use Rattle.def_model.specs.Cuts.{total}
use Rattle.def_model.specs.Events.{event_count}
use Rattle.def_model.proofs.Steps.{sum_within}
use Rattle.wide_pairs.specs.FirstCuts.{HasNoneAt, IsFirstAt, IsFirstSoFar}
use Rattle.std.specs.Prelude.{IfNone}
use Rattle.wide_pairs.proofs.Bands.{is_row}
use Rattle.wide_pairs.proofs.FirstPairs.{none_more, so_far_small}
use Rattle.wide_pairs.proofs.grid_possibly.first_of_rows.Goals.{in-Some, in-None}
use Rattle.wide_pairs.proofs.grid_possibly.first_of_rows.Goals as goal

pub first_at-requires-clause-row : goal.first_at-requires-clause-row
first_at-requires-clause-row g c =
    let events = c.args.computation.now.events in
    is_row events c.args.p c.args.q c.args.lows.now c.args.backs.now c.requires.lows c.requires.backs c.loop-i.i
    c.end_of-end.result
    (omega (arith, c.loop-i-test.true, c.requires.lows.one_each)) c.end_of-end.ensures

pub earlier-requires-clause-known : goal.earlier-requires-clause-known
earlier-requires-clause-known g c =
    so_far_small c.args.computation.now.events (g.G.GoodPairs.good c.args.wanted.now) c.args.p c.args.q c.loop-i.i
    160000 c.loop-i.first (omega (arith, c.total.ensures.sum, c.total.ensures.small)) c.loop-i.invariant.first

pub earlier-requires-clause-more : goal.earlier-requires-clause-more
earlier-requires-clause-more g c =
    let events = c.args.computation.now.events in
    let at : IsFirstAt events (g.G.GoodPairs.good c.args.wanted.now) c.args.p c.args.q c.loop-i.i c.in-Some.cut =
    rw c.in-Some.is at c.in_ok-found.ensures.some in
    let most : sum c.in-Some.cut ≤ total events = sum_within events c.in-Some.cut at.consistent in
    omega (arith, c.total.ensures.sum, c.total.ensures.small)

pub loop-i-preserved : goal.loop-i-preserved
loop-i-preserved g c =
    let events = c.args.computation.now.events in
    let good = g.G.GoodPairs.good c.args.wanted.now in
    record {
      first = elim c.match-found.branch [
        | in-Some w ↦ (
            let at : IsFirstAt events good c.args.p c.args.q c.loop-i.i w.in-Some.cut =
            subst (λ (found : Option (List ℕ)). IfSome found (IsFirstAt events good c.args.p c.args.q c.loop-i.i))
            w.in-Some.is c.in_ok-found.ensures.some in
            subst (λ (first : Option (List ℕ)). IsFirstSoFar events good c.args.p c.args.q (c.loop-i.i + 1) first)
            (sym w.first-is)
            (w.earlier.ensures events good c.args.p c.args.q c.loop-i.i c.loop-i.invariant.first at)
            )
        | in-None w ↦ (
            let none : HasNoneAt events good c.args.p c.args.q c.loop-i.i =
            subst (λ (found : Option (List ℕ)). IfNone found (HasNoneAt events good c.args.p c.args.q c.loop-i.i))
            w.in-None.is c.in_ok-found.ensures.none in
            subst (λ (first : Option (List ℕ)). IsFirstSoFar events good c.args.p c.args.q (c.loop-i.i + 1) first)
            (sym w.first-is)
            (none_more events good c.args.p c.args.q c.loop-i.i c.loop-i.first c.loop-i.invariant.first none)
            )
      ];
      within = c.end_of-end.ensures.within;
      before = λ j lt. let le : get_or c.args.backs.now j 0 ≤ c.loop-i.i = c.end_of-end.ensures.before j lt in
          omega (arith, le);
    }

pub returns : goal.returns
returns g c =
    let events = c.args.computation.now.events in
    let all : c.loop-i.i ≡ event_count events c.args.p + 1 =
    omega (arith, c.loop-i-test.false, c.loop-i.auto.i-end, c.requires.lows.one_each) in
    subst (λ (n : ℕ). IsFirstSoFar events (g.G.GoodPairs.good c.args.wanted.now) c.args.p c.args.q n c.loop-i.first) all
    c.loop-i.invariant.first
