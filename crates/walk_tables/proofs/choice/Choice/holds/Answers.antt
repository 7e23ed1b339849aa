-- The set is asked of the sum of the cut.
use Rattle.std.proofs.Common.{◌∙◌, ap, w64}
use Rattle.std.proofs.lemmas.Int.{to_z-of_z}
use Rattle.walk_tables.specs.Choices.{allows}
use Rattle.walk_tables.specs.Zero.{turned}
use Rattle.walk_tables.proofs.Sets.{unlike_turned}
use Rattle.walk_tables.proofs.choice.Choice.holds.Goals as goal

pub returns : goal.returns
returns c =
    λ prefix is.
    let choice = c.args.self.now in
    let sum = c.sum_after.result in
    let value =
    to_z-of_z w64 sum (record { sfits = c.sum_after.type_inv })
    ∙ c.sum_after.ensures prefix (to_z-of_z w64 c.args.base c.ranges.base ∙ is) in
    unlike_turned c.has.result choice.is_and
    ∙ ap (turned choice.is_and) (c.has.ensures ∙ ap (allows choice.allowed) value)
