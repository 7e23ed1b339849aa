-- The row has the numbers of the counts so far.
use Rattle.std.proofs.Common.{◌≡◌, ℕ, ◌<◌, length}
use Rattle.pd_pred.specs.Trees.{sum_view}
use Rattle.wide_pairs.specs.Parts.{IsSmall, number_at, part_of_difference}
use Rattle.wide_pairs.proofs.row.row_of.Given as goal

abbrev pub invariant-loop-count : goal.invariant-loop-count
invariant-loop-count l = record {
  count : length l.row.items ≡ l.count;
  small : (n : ℕ) → IsSmall (number_at l.row.items n);
  adds : (n : ℕ) → n < l.count → number_at l.row.items n
      ≡ part_of_difference l.computation l.process n l.numbers (sum_view l.left) (sum_view l.right);
}
