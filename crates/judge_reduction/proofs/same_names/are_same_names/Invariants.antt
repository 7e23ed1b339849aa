-- The processes so far are those at the places so far.
use Rattle.std.proofs.Common.{◌≡◌, take}
use Rattle.def_orders.specs.Selections.{at_places}
use Rattle.def_recordings.specs.Reductions.{no_process}
use Rattle.judge_reduction.proofs.same_names.are_same_names.Given as goal

abbrev pub invariant-loop-i : goal.invariant-loop-i
invariant-loop-i l = take l.i l.first ≡ at_places (take l.i l.places) l.second no_process
