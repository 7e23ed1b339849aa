-- What the loop over the cuts of a run keeps: the bits so far.
use Rattle.std.proofs.Common.{◌≡◌, ℕ, ◌+◌, ◌-◌, ◌<◌, ◌≤◌, false}
use Rattle.walk_keys.specs.Words.{has_bit}
use Rattle.def_model.specs.Predicates.{test_of}
use Rattle.pd_pred.specs.Trees.{tree_view}
use Rattle.walk_keys.specs.Neighbors.{cut_at}
use Rattle.walk_tables.specs.Zero.{turned}
use Rattle.walk_tables.proofs.node.direct_mask.Given as goal

abbrev pub invariant-loop-j : goal.invariant-loop-j
invariant-loop-j l = record {
  within : (k : ℕ) → k < l.j → has_bit l.mask k
      ≡ turned l.negated (test_of l.computation (tree_view l.tree) (cut_at l.prefix (l.x + k) (l.y - k)));
  beyond : (k : ℕ) → l.j ≤ k → has_bit l.mask k ≡ false;
}
