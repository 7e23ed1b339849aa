-- The greatest number of one process more.
use Rattle.std.proofs.Common.{◌≡◌, ◌+◌, ◌≤◌, List, ℤ, ◌+ℤ◌, get_or, sym, ap, ◌∙◌, subst, arith, to_z, of_z}
use Rattle.std.specs.Int.{w128}
use Rattle.std.specs.Prelude.{unsigned_abs}
use Rattle.std.proofs.lemmas.Int.{to_z-of_z}
use Rattle.wide_slice.specs.Values.{value_limit}
use Rattle.wide_gates.specs.Greatest.{IsMostUpTo}
use Rattle.wide_gates.specs.Ranges.{InRanges}
use Rattle.wide_gates.specs.Tables.{IsGreatest}
use Rattle.wide_gates.specs.declared.range.Range.{Range}
use Rattle.wide_gates.proofs.Products.{greatest_small, range_more}
use Rattle.wide_gates.proofs.greatest.box_more.Goals as goal
use Rattle.wide_gates.proofs.greatest.box_more.Goals.{After-greatest-number}

abbrev no_range : Range
no_range = record { low = 0; high = 0 }

greatest : (c : After-greatest-number) → IsGreatest c.index-values-q.result.items
    (get_or c.args.ranges.now c.args.q no_range).low ((get_or c.args.ranges.now c.args.q no_range).high + 1)
    c.greatest-number.result
greatest c =
    subst
    (λ (row : List ℤ). IsGreatest row (get_or c.args.ranges.now c.args.q no_range).low
    ((get_or c.args.ranges.now c.args.q no_range).high + 1) c.greatest-number.result) c.as_slice-row.ensures.value
    c.greatest-number.ensures

small : (c : After-greatest-number) → unsigned_abs c.greatest-number.result ≤ value_limit
small c =
    greatest_small c.args.computation.now.events c.args.values.now c.args.q c.index-values-q.result
    (get_or c.args.ranges.now c.args.q no_range).low ((get_or c.args.ranges.now c.args.q no_range).high + 1)
    c.greatest-number.result c.requires.values c.requires.within c.index-values-q.is (greatest c)

plain : (c : After-greatest-number) → to_z w128 (of_z w128 c.greatest-number.result) ≡ c.greatest-number.result
plain c = to_z-of_z w128 c.greatest-number.result (record { sfits = c.greatest-number.type_inv })

pub with_more-requires-clause-number : goal.with_more-requires-clause-number
with_more-requires-clause-number c =
    let at = (goal.at.with_more-requires-clause-number c).After-greatest-number in
    subst (λ (z : ℤ). unsigned_abs z ≤ value_limit) (sym (plain at)) (small at)

pub returns : goal.returns
returns c =
    let at = (goal.at.returns c).After-greatest-number in
    let made : to_z w128 (of_z w128 c.with_more.result) ≡ c.args.sum +ℤ c.greatest-number.result =
    to_z-of_z w128 c.with_more.result (record { sfits = c.with_more.type_inv })
    ∙ c.with_more.ensures
    ∙ ap (λ (t : ℤ × ℤ). t.0 +ℤ t.1) (λ i. (to_z-of_z w128 c.args.sum c.ranges.sum i, plain at i)) in
    subst (IsMostUpTo c.args.values.now (InRanges c.args.ranges.now) (c.args.q + 1)) (sym made)
    (range_more c.args.values.now c.args.ranges.now c.args.q c.index-values-q.result no_range c.args.sum
    c.greatest-number.result c.requires.within
    (omega (arith, c.requires.within, c.requires.values.one_each, c.requires.ranges.one_each)) c.index-values-q.is
    c.requires.before (greatest at) (small at))
