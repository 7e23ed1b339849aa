-- What the loop of `look_between` keeps.
use Rattle.wide_flow.specs.Searches.{AreLookedAt, AreReached, GoesOn}
use Rattle.wide_flow.proofs.look.look_between.Given as goal

abbrev pub invariant-loop-k : goal.invariant-loop-k
invariant-loop-k l = record {
  reached : AreReached l.steps l.flow l.reached.items l.places;
  on : GoesOn l.initial.reached.items l.reached.items;
  looked : AreLookedAt l.flow l.reached.items l.row l.from l.k;
}
