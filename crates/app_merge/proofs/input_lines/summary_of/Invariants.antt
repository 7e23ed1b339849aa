-- The lines so far have this summary.
use Rattle.app_merge.specs.Steps.{IsSoFar}
use Rattle.app_merge.proofs.input_lines.summary_of.Given as goal

abbrev pub invariant-lines : goal.invariant-lines
invariant-lines g l = IsSoFar (g.I.ByteSource.left l.fn.input) l.lines l.summary l.number
