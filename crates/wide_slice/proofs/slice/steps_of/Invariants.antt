-- What the loop of `steps_of` keeps.
use Rattle.wide_slice.proofs.Made.{AreMade}
use Rattle.wide_slice.proofs.slice.steps_of.Given as goal

abbrev pub invariant-loop-process : goal.invariant-loop-process
invariant-loop-process g l =
    AreMade l.slice.rows.items l.slice.asked.items l.values l.slice.least.items l.process l.steps.items
