-- What the loop of `row_of_process` keeps.
use Rattle.wide_conjunctions.proofs.RowSteps.{IsRowSoFar}
use Rattle.wide_conjunctions.proofs.rows.row_of_process.Given as goal

abbrev pub invariant-loop-count : goal.invariant-loop-count
invariant-loop-count g l =
    IsRowSoFar (g.G.GoodCounts.good l.wanted l.p) l.count l.start l.leave l.starts.items l.leaves.items
