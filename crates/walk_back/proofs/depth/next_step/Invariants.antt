-- What the loop of `next_step` keeps.
use Rattle.walk_back.specs.Searches.{NoneLeaves, search_events, search_test}
use Rattle.walk_back.proofs.depth.next_step.Given as goal

abbrev pub invariant-loop-p : goal.invariant-loop-p
invariant-loop-p l = NoneLeaves (search_events l.search) (search_test l.search) l.cut l.p
