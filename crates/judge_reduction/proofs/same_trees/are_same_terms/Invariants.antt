-- The terms so far are the same.
use Rattle.std.proofs.Common.{◌≡◌, map, take}
use Rattle.def_orders.specs.Selections.{numbers_in}
use Rattle.pd_pred.specs.Trees.{terms_view}
use Rattle.judge_reduction.proofs.RenamedTerms.{renamed_signed}
use Rattle.judge_reduction.proofs.same_trees.are_same_terms.Given as goal

abbrev pub invariant-loop-i : goal.invariant-loop-i
invariant-loop-i l =
    map (renamed_signed (numbers_in l.places l.count)) (take l.i l.first) ≡ terms_view (take l.i l.second)
