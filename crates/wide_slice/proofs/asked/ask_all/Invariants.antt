-- What the loop of `ask_all` keeps.
use Rattle.std.proofs.Common.{◌≢◌, ℕ, ◌<◌, length}
use Rattle.wide_slice.specs.Points.{IsAskedBy, row_at}
use Rattle.wide_slice.proofs.asked.ask_all.Given as goal

abbrev pub invariant-loop-p : goal.invariant-loop-p
invariant-loop-p l = (p : ℕ) → p < l.p → p ≢ l.process
    → IsAskedBy (row_at l.rows p) l.process (length (row_at l.rows p)) l.flags
