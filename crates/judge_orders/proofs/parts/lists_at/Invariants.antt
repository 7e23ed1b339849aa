-- The lists at the places so far.
use Rattle.std.proofs.Common.{◌≡◌, [], take}
use Rattle.def_orders.specs.Selections.{at_places}
use Rattle.judge_orders.specs.Lists.{lists_view}
use Rattle.judge_orders.proofs.parts.lists_at.Given as goal

abbrev pub invariant-loop-p : goal.invariant-loop-p
invariant-loop-p l = lists_view l.found.items ≡ at_places (take l.p-index l.places) (lists_view l.lists) []
