-- Each table is between its least and its greatest number.
use Rattle.std.proofs.Common.{arith}
use Rattle.std.proofs.lemmas.Int.{ints}
use Rattle.walk_tables.proofs.linear.Linear.range_after.Goals as goal

pub returns : goal.returns
returns c =
    λ prefix x y is.
    let across = c.args.self.now.across.between x in
    let down = c.args.self.now.down.between y in
    (omega (arith, ints, is, across.0, down.0), omega (arith, ints, is, across.1, down.1))
