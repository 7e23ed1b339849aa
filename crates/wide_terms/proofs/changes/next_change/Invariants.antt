-- The variables have the same values at the counts that are seen.
use Rattle.std.proofs.Common.{All, ℕ, ◌<◌}
use Rattle.wide_terms.specs.Changes.{VariableStays}
use Rattle.wide_terms.proofs.changes.next_change.Given as goal

abbrev pub invariant-loop-count : goal.invariant-loop-count
invariant-loop-count l =
    (n : ℕ) → l.from < n → n < l.count → All (VariableStays l.computation l.process l.from n) l.vars
