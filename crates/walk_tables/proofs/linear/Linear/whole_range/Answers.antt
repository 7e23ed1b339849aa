-- Each table is between its least and its greatest number.
use Rattle.std.proofs.Common.{arith}
use Rattle.std.proofs.lemmas.Int.{ints}
use Rattle.walk_tables.proofs.linear.Linear.whole_range.Goals as goal

pub returns : goal.returns
returns c =
    λ prefix x y.
    let base = c.range-least.ensures.between prefix in
    let across = c.args.self.now.across.between x in
    let down = c.args.self.now.down.between y in
    (omega (arith, ints, base.0, across.0, down.0), omega (arith, ints, base.1, across.1, down.1))
