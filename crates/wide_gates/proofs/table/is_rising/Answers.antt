-- One count more.
use Rattle.std.proofs.Common.{◌+◌, ◌≤ℤ◌, arith}
use Rattle.std.proofs.lemmas.Int.{ints}
use Rattle.wide_slice.specs.Values.{number_at}
use Rattle.wide_gates.proofs.Widths.{rising_more}
use Rattle.wide_gates.proofs.table.is_rising.Goals as goal

pub loop-count-preserved : goal.loop-count-preserved
loop-count-preserved c =
    rising_more c.args.row.now c.loop-count.count c.loop-count.invariant
    (let le : number_at c.args.row.now c.loop-count.count ≤ℤ number_at c.args.row.now (c.loop-count.count + 1) =
    omega (arith, ints, c.if-number.false, c.number.ensures, c.number-in-loop-count.ensures) in le)
