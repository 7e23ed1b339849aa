-- The counts fit, and the truths before a count are those of the cuts with no more events of the process.
use Rattle.std.proofs.Common.{◌≡◌, ◌+◌, ◌-◌, ◌/◌, ◌<◌, ◌≤◌, ℕ, List, length, false, get_or}
use Rattle.def_model.specs.Cuts.{FitsProcesses}
use Rattle.def_model.specs.Predicates.{test_of}
use Rattle.pd_pred.specs.Trees.{tree_view}
use Rattle.wide_terms.specs.Rows.{turned}
use Rattle.wide_terms.specs.Truths.{truth_at}
use Rattle.wide_terms.proofs.row.row_by.Given as goal

abbrev pub invariant-loop-from : goal.invariant-loop-from
invariant-loop-from l = record {
  fits : FitsProcesses l.computation.events l.counts.items;
  within : l.from ≤ l.end;
  many : length l.words.items ≡ l.end / 64 + 1;
  truths : (k : ℕ) (cut : List ℕ) → k < l.from → FitsProcesses l.computation.events cut → get_or cut l.process 0 ≡ k
      → truth_at l.words.items k ≡ turned l.negated (test_of l.computation (tree_view l.tree) cut);
  none : (k : ℕ) → l.from ≤ k → truth_at l.words.items k ≡ false;
}

abbrev pub decreases-loop-from : goal.decreases-loop-from
decreases-loop-from l = l.end - l.from
