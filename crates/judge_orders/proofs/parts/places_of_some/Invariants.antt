-- The places of the lists so far that aren't empty.
use Rattle.judge_orders.specs.Lists.{lists_view}
use Rattle.judge_orders.proofs.SomeLists.{ArePlacesOf}
use Rattle.judge_orders.proofs.parts.places_of_some.Given as goal

abbrev pub invariant-loop-p : goal.invariant-loop-p
invariant-loop-p l = ArePlacesOf (lists_view l.lists) l.places.items l.p
