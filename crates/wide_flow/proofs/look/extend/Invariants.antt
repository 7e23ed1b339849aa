-- What the loop of `extend` keeps.
use Rattle.std.proofs.Common.{length}
use Rattle.wide_flow.specs.Searches.{AreRaised, AreReached, GoesOn}
use Rattle.wide_flow.proofs.look.extend.Given as goal

abbrev pub invariant-loop-process : goal.invariant-loop-process
invariant-loop-process l = record {
  reached : AreReached l.steps l.flow l.reached.items l.places;
  on : GoesOn l.initial.reached.items l.reached.items;
  raised : AreRaised (length l.rows) l.steps l.rows l.flow l.reached.items l.step l.initial.tops.items l.tops.items
      l.process;
}
