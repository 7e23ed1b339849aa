-- All numbers are the same, and there are none past them.
use Rattle.std.proofs.Common.{arith}
use Rattle.walk_tables.proofs.Columns.{same_numbers}
use Rattle.walk_tables.proofs.table.are_same.Goals as goal

pub returns : goal.returns
returns c held n d =
    same_numbers c.args.first.now c.args.second.now (omega (arith, c.if-first-second.false))
    (λ k lt. c.loop-i.invariant k (omega (arith, lt, c.loop-i-test.false))) n d
