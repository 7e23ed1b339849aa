-- The value by a count is that in a cut with this count.
use Rattle.std.proofs.Common.{◌∙◌, w64}
use mir.Val.{SFits}
use Rattle.std.proofs.lemmas.Int.{to_z-of_z}
use Rattle.wide_pairs.proofs.Values.{value_by_cuts}
use Rattle.wide_pairs.proofs.part.value_of.Goals as goal

pub returns : goal.returns
returns c =
    let fits : SFits w64 c.value.result = record { sfits = c.value.type_inv } in
    to_z-of_z w64 c.value.result fits
    ∙ value_by_cuts c.args.computation.now c.args.process c.args.count c.args.var c.value.result c.value.ensures
