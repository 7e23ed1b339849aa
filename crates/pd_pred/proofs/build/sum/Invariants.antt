-- What the loops of `sum` keep.
use Rattle.std.proofs.Common.{◌≤◌, ◌+◌, length, vec_len}
use Rattle.pd_pred.specs.Building.{IsSumRead}
use Rattle.pd_pred.specs.Trees.{terms_view}
use Rattle.pd_pred.proofs.build.sum.Given as goal

abbrev pub invariant-loop-sign : goal.invariant-loop-sign
invariant-loop-sign l = record {
  read : IsSumRead l.names l.tokens l.rest (terms_view l.terms.items);
  few : vec_len l.terms + length l.rest ≤ length l.tokens;
}

abbrev pub decreases-loop-sign : goal.decreases-loop-sign
decreases-loop-sign l = length l.rest
