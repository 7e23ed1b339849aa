-- No comparison that is seen holds at the count.
use Rattle.std.proofs.Common.{◌≡◌, drop}
use Rattle.wide_terms.specs.Ors.{clause_good}
use Rattle.wide_terms.proofs.clause.ClauseGoodCounts.is_good.Given as goal

abbrev pub invariant-loop-row : goal.invariant-loop-row
invariant-loop-row l =
    clause_good l.self.rows.items l.process l.count
    ≡ clause_good (drop l.row-index l.self.rows.items) l.process l.count
