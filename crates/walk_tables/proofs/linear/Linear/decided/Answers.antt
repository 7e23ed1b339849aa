-- What is decided between the least and the greatest is decided at each cut.
use Rattle.std.proofs.Common.{arith}
use Rattle.std.proofs.lemmas.Int.{ints}
use Rattle.std.proofs.lemmas.Option.{IfSome_then}
use Rattle.walk_tables.specs.Tables.{linear_value}
use Rattle.walk_tables.proofs.linear.Linear.decided.Goals as goal

pub returns : goal.returns
returns c =
    IfSome_then c.decided.result c.decided.ensures
    (λ truth all prefix x y.
    let base = c.range-least.ensures.between prefix in
    let across = c.args.self.now.across.between x in
    let down = c.args.self.now.down.between y in
    all (linear_value c.args.self.now prefix x y)
    (omega (arith, ints, base.0, across.0, down.0), omega (arith, ints, base.1, across.1, down.1)))
