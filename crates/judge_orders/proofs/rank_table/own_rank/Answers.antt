-- One more count.
use Rattle.std.proofs.Common.{◌≡◌, ◌+◌, ◌-◌, ℕ, subst, arith}
use Rattle.judge_orders.specs.Ranked.{IsCountBelow}
use Rattle.judge_orders.proofs.Ranking.{count_below, count_is}
use Rattle.judge_orders.proofs.rank_table.own_rank.Goals as goal

pub count_with-requires-clause-below : goal.count_with-requires-clause-below
count_with-requires-clause-below c =
    let one : c.args.number - 1 + 1 ≡ c.args.number = omega (arith, c.requires.some) in
    subst (λ (n : ℕ). IsCountBelow c.args.numbers.now n c.args.past) one
    (count_below c.args.numbers.now (c.args.number - 1) c.args.past c.requires.ascend c.requires.past)

pub returns : goal.returns
returns c = count_is c.args.numbers.now c.args.number c.count_with.result c.count_with.ensures.count
