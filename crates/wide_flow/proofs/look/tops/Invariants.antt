-- What the loop of `tops` keeps.
use Rattle.wide_flow.specs.Searches.{AreTops}
use Rattle.wide_flow.proofs.look.tops.Given as goal

abbrev pub invariant-loop-process : goal.invariant-loop-process
invariant-loop-process l = AreTops l.process l.steps l.rows l.frozen l.e l.tops.items
