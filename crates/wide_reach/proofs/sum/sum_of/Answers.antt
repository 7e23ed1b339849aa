-- The number of one process more is added.
use Rattle.std.proofs.Common.{◌≡◌, ◌+◌, ◌*◌, ◌≤◌, ℤ, ◌+ℤ◌, to_z, of_z, get_or, drop, ap, sym, ◌∙◌, subst, arith}
use Rattle.std.specs.Int.{w128}
use Rattle.std.specs.Int.RustNames.{FitsSigned, unsigned_abs}
use Rattle.wide_slice.specs.Values.{number_at, sum_at, value_limit}
use Rattle.wide_reach.proofs.SumSteps.{number_small, sum_drop, sum_more, sum_read, sum_small}
use Rattle.wide_reach.proofs.sum.sum_of.Goals as goal
use Rattle.wide_reach.proofs.sum.sum_of.Goals.{After-number-sum}

number_is : (c : After-number-sum) → c.number-sum.result
    ≡ number_at c.index-values-p.result.items (get_or c.args.counts.now c.loop-p.p 0)
number_is c =
    c.number-sum.ensures
    ∙ ap (λ (xs : _). number_at xs (get_or c.args.counts.now c.loop-p.p 0)) c.deref.ensures.value

small_number : (c : After-number-sum) → unsigned_abs c.number-sum.result ≤ value_limit
small_number c =
    subst (λ (z : ℤ). unsigned_abs z ≤ value_limit) (sym (number_is c))
    (number_small c.args.values.now c.loop-p.p (get_or c.args.counts.now c.loop-p.p 0) c.index-values-p.result
    c.requires.small c.loop-p-test.true c.index-values-p.is)

read : (c : After-number-sum)
    → FitsSigned w128 (to_z w128 c.loop-p.sum-bits +ℤ to_z w128 (of_z w128 c.number-sum.result))
    × (to_z w128 (of_z w128 (to_z w128 c.loop-p.sum-bits +ℤ to_z w128 (of_z w128 c.number-sum.result)))
    ≡ to_z w128 c.loop-p.sum-bits +ℤ c.number-sum.result)
read c =
    sum_read (to_z w128 c.loop-p.sum-bits) c.number-sum.result c.loop-p.p
    c.loop-p.invariant.small (small_number c) (omega (arith, c.loop-p-test.true, c.requires.small.few))

pub overflow_add-sum : goal.overflow_add-sum
overflow_add-sum c = (read (goal.at.overflow_add-sum c).After-number-sum).0

pub loop-p-preserved : goal.loop-p-preserved
loop-p-preserved c =
    let at = (goal.at.loop-p-preserved c).After-number-sum in
    let values = c.args.values.now in
    let counts = c.args.counts.now in
    let p = c.loop-p.p in
    let number = c.number-sum.result in
    let sum = to_z w128 c.loop-p.sum-bits in
    record {
      rest =
          sum_more _ sum number (sum_at (drop p values) (drop p counts))
          (sum_at (drop (p + 1) values) (drop (p + 1) counts)) (sum_at values counts) (read at).1
          (sum_drop values counts p c.index-values-p.result c.loop-p-test.true c.requires.one_each c.index-values-p.is
          ∙ ap (λ (z : ℤ). z +ℤ sum_at (drop (p + 1) values) (drop (p + 1) counts)) (sym (number_is at)))
          c.loop-p.invariant.rest;
      small =
          subst (λ (z : ℤ). unsigned_abs z ≤ (p + 1) * value_limit) (sym (read at).1)
          (sum_small sum number p c.loop-p.invariant.small (small_number at));
    }
