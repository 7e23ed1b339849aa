-- The length is that of a row that ends before the last space so far, if there is one but the first byte.
use Rattle.app_text.proofs.RowLengths.{IsRowSoFar}
use Rattle.app_text.proofs.rows.row_length.Given as goal

abbrev pub invariant-loop-index : goal.invariant-loop-index
invariant-loop-index l = IsRowSoFar l.columns l.line l.index l.length
