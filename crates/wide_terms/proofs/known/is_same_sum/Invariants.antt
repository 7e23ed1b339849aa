-- The terms that are seen are equal.
use Rattle.std.proofs.Common.{◌≡◌, take}
use Rattle.pd_pred.specs.Trees.{terms_view}
use Rattle.wide_terms.proofs.known.is_same_sum.Given as goal

abbrev pub invariant-loop-i : goal.invariant-loop-i
invariant-loop-i l = terms_view (take l.i l.first.terms.items) ≡ terms_view (take l.i l.second.terms.items)
