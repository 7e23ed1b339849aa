-- What the loop of `expand` keeps.
use Rattle.std.proofs.Common.{◌≡◌, ◌+◌, ◌<◌, ◌≤◌, length, max, take}
use Rattle.walk_back.specs.Counts.{others}
use Rattle.walk_back.specs.Ways.{AreAvoidingLevels, AreInTurn, last_number}
use Rattle.def_model.specs.Predicates.{test_of}
use Rattle.pd_pred.specs.Views.{predicate_view}
use Rattle.walk_back.proofs.descent.expand.Given as goal

abbrev pub invariant-loop : goal.invariant-loop
invariant-loop g l = record {
  some : 0 < length l.held.levels.items;
  lists : AreAvoidingLevels l.computation.events (test_of l.computation (predicate_view l.pred)) l.held.levels.items;
  within : length l.fn.held.levels.items ≤ length l.held.levels.items;
  kept : take (length l.fn.held.levels.items) l.held.levels.items ≡ l.fn.held.levels.items;
  in_turn : AreInTurn (length l.fn.held.levels.items) (last_number l.fn.held.levels.items) l.held.levels.items;
  number : last_number l.held.levels.items + 1 ≡ l.counter;
  count : length l.held.levels.items + last_number l.fn.held.levels.items + 1
      ≡ length l.fn.held.levels.items + l.counter;
  no_fewer : l.fn.held.most ≤ l.held.most;
  same_others : others l.held ≡ others l.fn.held;
  most : l.held.most ≤ max l.fn.held.most (length l.held.levels.items + others l.fn.held);
}
