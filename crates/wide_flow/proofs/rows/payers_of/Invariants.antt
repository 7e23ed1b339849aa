-- What the loop of `payers_of` keeps.
use Rattle.wide_flow.specs.Rows.{IsRowUpTo}
use Rattle.wide_flow.proofs.rows.payers_of.Given as goal

abbrev pub invariant-loop-i : goal.invariant-loop-i
invariant-loop-i l = IsRowUpTo l.steps l.i l.process l.row.items
