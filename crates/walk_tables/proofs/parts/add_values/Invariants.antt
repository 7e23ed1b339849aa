-- What the loop over a row keeps: the numbers that are done have their part.
use Rattle.std.proofs.Common.{◌≡◌, ℕ, ◌<◌, ◌≤◌, ◌+ℤ◌, ◌*ℤ◌, List, slice_index}
use Rattle.def_model.specs.Predicates.{state_at}
use Rattle.walk_tables.specs.Parts.{row_at}
use Rattle.walk_tables.specs.Zero.{IsSmall}
use Rattle.walk_tables.proofs.parts.add_values.Given as goal

abbrev pub invariant-loop-n : goal.invariant-loop-n
invariant-loop-n l = record {
  small : (k : ℕ) → IsSmall (row_at l.row k);
  added : (counts : List ℕ) → slice_index counts l.process < l.n
      → row_at l.row (slice_index counts l.process) ≡ row_at l.initial.row (slice_index counts l.process)
      +ℤ l.factor *ℤ state_at l.computation.initial l.computation.events counts l.process l.var;
  same : (k : ℕ) → l.n ≤ k → row_at l.row k ≡ row_at l.initial.row k;
}
