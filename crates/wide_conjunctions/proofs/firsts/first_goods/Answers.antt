-- The first good count of one process more.
use Rattle.std.proofs.Common.{◌≡◌, ◌+◌, ℕ, List, [], ◌∷◌, get_or, length, length-append, sym, ap, ◌∙◌, subst, arith}
use Rattle.def_model.specs.Events.{event_count}
use Rattle.wide_conjunctions.specs.Firsts.{IsFirstGood}
use Rattle.wide_conjunctions.proofs.MostBefore.{each_more}
use Rattle.wide_conjunctions.proofs.firsts.first_goods.Goals as goal

pub loop-p-preserved : goal.loop-p-preserved
loop-p-preserved g c =
    let good = g.G.GoodCounts.good c.args.wanted.now in
    let events = c.args.computation.now.events in
    let count : length c.loop-p.firsts.items ≡ c.loop-p.p = c.loop-p.invariant.count in
    record {
      count =
          ap length c.in_ok-push.ensures.items
          ∙ (length-append c.loop-p.firsts.items (c.first_good.result ∷ []) ∙ ap (λ (n : ℕ). n + 1) count);
      each = λ q lt.
          subst (λ (xs : List ℕ). IsFirstGood (good q) (event_count events q) (get_or xs q 0))
          (sym c.in_ok-push.ensures.items)
          (each_more (λ i x. IsFirstGood (good i) (event_count events i) x) c.loop-p.firsts.items c.first_good.result
          (λ i low. c.loop-p.invariant.each i (omega (arith, count)))
          (subst (λ (n : ℕ). IsFirstGood (good n) (event_count events n) c.first_good.result) (sym count)
          c.first_good.ensures) q (omega (arith, lt, count)));
    }

pub returns : goal.returns
returns g c =
    let end : c.loop-p.p ≡ length c.args.computation.now.events =
    omega (arith, c.loop-p-test.false, c.loop-p.auto.p-end, c.processes-p-end.ensures) in
    record {
      one_each = c.loop-p.invariant.count ∙ end;
      each = λ q lt. c.loop-p.invariant.each q (omega (arith, end));
    }
