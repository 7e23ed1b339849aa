-- Two stretches of one width.
use Rattle.std.proofs.Common.{rules, arith}
use Rattle.wide_gates.proofs.Widths.{between}
use Rattle.wide_gates.proofs.table.at_level.Goals as goal

pub returns : goal.returns
returns c = λ row counts width has up near.
    between row c.args.level.now counts width c.args.low c.args.last _ has
    (search rules) up near (omega (arith, has.many, c.requires.last))
