-- The least and the greatest of the numbers so far.
use Rattle.std.proofs.Common.{pos, arith, get_or, below_more, to_z, of_z, w64}
use Rattle.std.proofs.lemmas.Int.{ints}
use Rattle.std.proofs.lemmas.List.{get_or_default}
use Rattle.walk_tables.specs.Zero.{IsSmall}
use Rattle.walk_tables.proofs.table.Table.new.Goals as goal

pub loop-value-preserved : goal.loop-value-preserved
loop-value-preserved c =
    let items = c.deref-value-items.result.now in
    let index = c.loop-value.value-index in
    let beyond = to_z w64 c.if-is_empty.beyond-bits in
    let item : IsSmall (get_or items index (pos 0)) = rw c.deref-value-items.ensures.value (c.requires index) in
    let read : IsSmall (to_z w64 (of_z w64 (get_or items index (pos 0)))) = omega (arith, ints, item) in
    let low : IsSmall c.lesser-least.result = c.lesser-least.ensures.small c.loop-value.invariant.low read in
    let high : IsSmall c.greater-greatest.result = c.greater-greatest.ensures.small c.loop-value.invariant.high read in
    let same = get_or_default items index beyond (pos 0) c.loop-value-test.true in
    let least = c.lesser-least.ensures in
    let greatest = c.greater-greatest.ensures in
    let kept = c.loop-value.invariant.beyond in
    record {
      low = omega (arith, ints, low);
      high = omega (arith, ints, high);
      beyond = (
        omega (arith, ints, low, least.first, kept.0),
        omega (arith, ints, high, greatest.first, kept.1),
      );
      between = below_more _ _
          (λ k h.
          let between = c.loop-value.invariant.between k h in (
            omega (arith, ints, low, least.first, between.0),
            omega (arith, ints, high, greatest.first, between.1),
          )) (
            omega (arith, ints, low, item, same, least.second),
            omega (arith, ints, high, item, same, greatest.second),
          );
    }
