-- Which comparison each row is of.
use Rattle.std.specs.Prelude.{◌≡◌, ℕ, List, [], ◌∷◌, Some, slice_get}
use Rattle.def_model.specs.Predicates.{Recorded}
use Rattle.pd_pred.specs.Trees.{tree_view}
use Rattle.wide_terms.specs.Rows.{IsRowOf}
use Rattle.wide_terms.specs.declared.known.Known.{Known}
use Rattle.wide_terms.specs.declared.row.TruthRow.{TruthRow}

-- each row is that of the comparison with its number
abbrev pub AreRowsOf : Recorded → List Known → List TruthRow → Type 0
AreRowsOf r [] [] = Unit {0}
AreRowsOf r [] (row ∷ rows) = ⊥
AreRowsOf r (comparison ∷ known) [] = ⊥
AreRowsOf r (comparison ∷ known) (row ∷ rows) =
    IsRowOf r comparison.negated (tree_view comparison.tree.now) row × AreRowsOf r known rows

-- the comparison with this number is equal to one
pub record IsNumberOf (known : List Known) (wanted : Known) (number : ℕ) : Type 0 where
  pub comparison : Known
  pub at : slice_get known number ≡ Some comparison
  pub alike : comparison.negated ≡ wanted.negated
  pub same : tree_view comparison.tree.now ≡ tree_view wanted.tree.now
