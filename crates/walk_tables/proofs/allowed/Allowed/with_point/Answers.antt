-- The single numbers have one more.
use Rattle.std.proofs.Common.{◌≡◌, ◌∙◌, ℤ, ap, rules, to_z, of_z, w64}
use Rattle.std.specs.Prelude.{◌||◌, int_lt}
use Rattle.std.specs.Ordering.{int_eq}
use Rattle.std.proofs.lemmas.Int.{to_z-of_z}
use Rattle.walk_tables.specs.Choices.{allows}
use Rattle.walk_tables.specs.Points.{has_point}
use Rattle.walk_tables.proofs.Sets.{point_more}
use Rattle.walk_tables.proofs.allowed.Allowed.with_point.Goals as goal

pub returns : goal.returns
returns c value =
    let set = c.args.self in
    let below : to_z w64 (of_z w64 set.below) ≡ set.below = search rules in
    let above : to_z w64 (of_z w64 set.above) ≡ set.above = search rules in
    (λ i. (int_lt value (below i) || int_lt (above i) value) || c.in_ok-points.ensures value i)
    ∙ point_more (int_lt value set.below) (int_lt set.above value) (int_eq value (to_z w64 (of_z w64 c.args.at)))
    (has_point set.points.values.items value)
    ∙ ap (λ (at : ℤ). int_eq value at || allows set value) (to_z-of_z w64 c.args.at c.ranges.at)
