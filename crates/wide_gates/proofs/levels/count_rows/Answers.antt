-- The rows of all processes.
use Rattle.std.proofs.Common.{arith}
use Rattle.wide_gates.proofs.Counting.{counts_are, counts_small}
use Rattle.wide_gates.proofs.levels.count_rows.Goals as goal

pub returns-clause-values : goal.returns-clause-values
returns-clause-values c =
    counts_small c.args.computation.now.events c.loop-process.rows.items
    (omega (arith, c.loop-process.invariant.many, c.loop-process-test.false, c.processes-process-end.ensures))
    (λ q d lt. c.loop-process.invariant.each q d (omega (arith, lt, c.loop-process.invariant.many)))

pub returns-clause-counts : goal.returns-clause-counts
returns-clause-counts c =
    counts_are c.args.computation.now.events c.loop-process.rows.items
    (omega (arith, c.loop-process.invariant.many, c.loop-process-test.false, c.processes-process-end.ensures))
    (λ q d lt. c.loop-process.invariant.each q d (omega (arith, lt, c.loop-process.invariant.many)))
