-- Counts that are good for an `and` of comparisons, by the comparisons of its opposite.
use Rattle.std.specs.Prelude.{ℕ, Bool, List, not}
use Rattle.wide_terms.specs.Ors.{clause_good}
use Rattle.wide_terms.specs.declared.row.TruthRow.{TruthRow}

-- the count of a process is good for none of these comparisons
abbrev pub none_good : List TruthRow → ℕ → ℕ → Bool
none_good rows p count = not (clause_good rows p count)
