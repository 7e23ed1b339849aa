-- One more count.
use Rattle.std.proofs.Common.{◌+◌, ◌≡◌, ◌<◌, ℕ, List, get_or, sym, subst, arith}
use Rattle.def_orders.specs.Orders.{count_up_to}
use Rattle.judge_orders.proofs.Places.{longer}
use Rattle.judge_orders.proofs.Ranking.{counts_more}
use Rattle.judge_orders.proofs.ranks.column.Goals as goal

pub loop-n-preserved : goal.loop-n-preserved
loop-n-preserved c = record {
  many = longer c.loop-n.column.items c.push.new.self.items c.count_with-count.result c.loop-n.n
      c.in_ok-push.ensures.items c.loop-n.invariant.many;
  small = omega (arith, c.count_with-count.ensures.next, c.loop-n.invariant.small);
  below = c.count_with-count.ensures.count;
  counts = subst
      (λ (column : List ℕ). (k : ℕ) → k < c.loop-n.n + 1 → get_or column k 0 ≡ count_up_to c.args.numbers.now k)
      (sym c.in_ok-push.ensures.items)
      (counts_more c.args.numbers.now c.loop-n.column.items c.loop-n.n c.count_with-count.result
      c.loop-n.invariant.many c.loop-n.invariant.counts c.count_with-count.ensures.count);
}
