-- What the loop of `lowest_of_height` keeps.
use Rattle.wide_reach.specs.Lowering.{IsLowered}
use Rattle.wide_reach.proofs.bound.lowest_of_height.Given as goal

abbrev pub invariant-loop-process : goal.invariant-loop-process
invariant-loop-process l = IsLowered l.steps l.target l.full l.height l.bound.items l.process
