-- The number is put at its place in the order, unless it stands there.
use Rattle.std.proofs.Common.{◌≡◌, ◌∙◌, ◌||◌, ℤ, List, ap, sym, subst, to_z, of_z, w64}
use Rattle.std.specs.Ordering.{int_eq}
use Rattle.std.proofs.lemmas.Int.{to_z-of_z}
use Rattle.walk_tables.specs.Points.{Ascend, has_point}
use Rattle.walk_tables.proofs.Ascents.{apart_at, ascend_insert, equal_is, has_again, has_insert}
use Rattle.walk_tables.proofs.points.Points.with.Goals as goal

pub returns-then-stands_at : goal.returns-then-stands_at
returns-then-stands_at c value =
    let points = c.args.self.values.items in
    let read : to_z w64 (of_z w64 c.args.point) ≡ c.args.point = to_z-of_z w64 c.args.point c.ranges.point in
    let there = rw c.deref-2.ensures.value at c.stands_at.ensures.there c.if-stands_at.true in
    has_again points c.count_below-i.result c.args.point value there.0 (equal_is _ _ there.1 ∙ read)

pub invariant_of-result-2 : goal.invariant_of-result-2
invariant_of-result-2 c =
    let points = c.args.self.values.items in
    let at = c.count_below-i.result in
    let point = to_z w64 (of_z w64 c.args.point) in
    let below = rw c.deref.ensures.value at c.count_below-i.ensures.below in
    let rest = rw c.deref.ensures.value at c.count_below-i.ensures.rest in
    let other = rw c.deref-2.ensures.value at c.stands_at.ensures.other c.if-stands_at.false in
    let within = rw c.deref.ensures.value at c.count_below-i.ensures.within in
    record {
      ascend = subst (λ (items : List ℤ). Ascend items) (sym c.in_ok-insert.ensures.items)
          (ascend_insert points at point within c.args.self.ascend below
          (apart_at points at point c.args.self.ascend below rest other));
    }

pub returns : goal.returns
returns c value =
    let points = c.args.self.values.items in
    ap (λ (items : List ℤ). has_point items value) c.in_ok-insert.ensures.items
    ∙ has_insert points c.count_below-i.result (to_z w64 (of_z w64 c.args.point)) value
    ∙ ap (λ (point : ℤ). int_eq value point || has_point points value) (to_z-of_z w64 c.args.point c.ranges.point)
