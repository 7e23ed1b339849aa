-- Whatever rows the lines that remain are put in, the text is put in those before and them.
use Rattle.std.proofs.Common.{ℕ, List, ◌++◌, length}
use Rattle.app_text.specs.Rows.{IsInRows}
use Rattle.app_text.proofs.rows.in_rows.Given as goal

abbrev pub invariant-lines : goal.invariant-lines
invariant-lines l = (rows : List ℕ) → IsInRows l.rest rows → IsInRows l.text (l.out.items ++ rows)

abbrev pub decreases-lines : goal.decreases-lines
decreases-lines l = length l.rest
