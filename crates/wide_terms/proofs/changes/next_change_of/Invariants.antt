-- The variable has the same value at the counts that are seen.
use Rattle.std.proofs.Common.{ℕ, ◌<◌}
use Rattle.wide_terms.specs.Changes.{VariableStays}
use Rattle.wide_terms.proofs.changes.next_change_of.Given as goal

abbrev pub invariant-loop-count : goal.invariant-loop-count
invariant-loop-count l = (n : ℕ) → l.from < n → n < l.count → VariableStays l.computation l.process l.from n l.var
