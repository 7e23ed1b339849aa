-- A number is at its place in the order or isn't among them.
use Rattle.std.proofs.Common.{ap, ◌∙◌, to_z, of_z, w64}
use Rattle.std.proofs.lemmas.Int.{to_z-of_z}
use Rattle.walk_tables.specs.Points.{has_point}
use Rattle.walk_tables.proofs.Ascents.{found_is}
use Rattle.walk_tables.proofs.points.Points.has.Goals as goal

pub returns : goal.returns
returns c =
    let points = c.args.self.now in
    found_is points.values.items c.count_below.result (to_z w64 (of_z w64 c.args.value)) c.stands_at.result
    points.ascend
    (rw c.deref-2.ensures.value at c.count_below.ensures.below)
    (rw c.deref-2.ensures.value at c.count_below.ensures.rest)
    (rw c.deref.ensures.value at c.stands_at.ensures.there)
    (rw c.deref.ensures.value at c.stands_at.ensures.other)
    ∙ ap (has_point points.values.items) (to_z-of_z w64 c.args.value c.ranges.value)
