-- The truths so far.
use Rattle.std.proofs.Common.{◌≡◌, ◌↔◌, IsTrue, ℕ, ◌<◌, false, get_or, length, pos}
use Rattle.pd_pred.specs.Trees.{comparison_view}
use Rattle.wide_gates.specs.Excluded.{ExcludedBy}
use Rattle.wide_gates.proofs.sure.where_excluded.Given as goal

abbrev pub invariant-loop-k : goal.invariant-loop-k
invariant-loop-k l = record {
  many : length l.flags.items ≡ l.k;
  each : (j : ℕ) → j < l.k → IsTrue (get_or l.flags.items j false)
      ↔ ExcludedBy (comparison_view l.comparison) (get_or l.above j (pos 0)) (get_or l.below j (pos 0));
}
