-- The counts at the places so far were added.
use Rattle.std.proofs.Common.{◌≡◌, ◌++◌, take}
use Rattle.def_orders.specs.Selections.{at_places}
use Rattle.judge_orders.proofs.parts.push_counts.Given as goal

abbrev pub invariant-loop-p : goal.invariant-loop-p
invariant-loop-p l = l.counts.items ≡ l.fn.counts.items ++ at_places (take l.p-index l.places) l.row 0
