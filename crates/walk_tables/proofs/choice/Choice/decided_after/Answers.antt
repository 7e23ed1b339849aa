-- What the set says of all sums between two is what the comparisons say.
use Rattle.std.proofs.Common.{◌≡◌, ◌∙◌, ap, sym, arith, rules, to_z, of_z, w64}
use Rattle.std.proofs.lemmas.Int.{ints, to_z-of_z}
use Rattle.walk_tables.specs.Tables.{linear_value}
use Rattle.walk_tables.specs.Zero.{turned}
use Rattle.walk_tables.proofs.Sets.{unlike_turned}
use Rattle.walk_tables.proofs.choice.Choice.decided_after.Goals as goal

pub returns-in-Some : goal.returns-in-Some
returns-in-Some c prefix x y is =
    let choice = c.args.self.now in
    let range = c.range_after-least.result in
    let between = c.range_after-least.ensures prefix x y (to_z-of_z w64 c.args.base c.ranges.base ∙ is) in
    let low : to_z w64 (of_z w64 range.0) ≡ range.0 = search rules in
    let high : to_z w64 (of_z w64 range.1) ≡ range.1 = search rules in
    ap (turned choice.is_and)
    (c.in-Some.ensures (linear_value choice.sum prefix x y)
    (omega (arith, ints, between.0, low), omega (arith, ints, between.1, high)))
    ∙ sym (unlike_turned c.in-Some.truth choice.is_and)
