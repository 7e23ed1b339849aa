-- The row never falls up to here.
use Rattle.wide_gates.specs.Tables.{IsRising}
use Rattle.wide_gates.proofs.table.is_rising.Given as goal

abbrev pub invariant-loop-count : goal.invariant-loop-count
invariant-loop-count l = IsRising l.row l.count
