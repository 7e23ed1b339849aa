-- Rows that are shared by equal comparisons.
use Rattle.std.proofs.Common.{◌≡◌, ℕ, zero, suc, List, [], ◌∷◌, ◌++◌, refl, subst}
use Rattle.std.proofs.lemmas.Option.{none-some, same_Some}
use Rattle.std.specs.Prelude.{Bool, Some, slice_get}
use Rattle.def_model.specs.Predicates.{Predicate, Recorded}
use Rattle.pd_pred.specs.Trees.{tree_view}
use Rattle.wide_terms.specs.KnownRows.{AreRowsOf, IsNumberOf}
use Rattle.wide_terms.specs.Rows.{IsRowOf, MakesTerms}
use Rattle.wide_terms.specs.declared.known.Known.{Known}
use Rattle.wide_terms.specs.declared.row.TruthRow.{TruthRow}
use Rattle.wide_terms.proofs.Building.{made_known}

-- a comparison has the row with its number
pub row_at : (r : Recorded) (known : List Known) (rows : List TruthRow) (i : ℕ) (comparison : Known)
    → AreRowsOf r known rows → slice_get known i ≡ Some comparison
    → (row : TruthRow) × (slice_get rows i ≡ Some row)
    × IsRowOf r comparison.negated (tree_view comparison.tree.now) row
row_at r [] rows i comparison are at = absurd (none-some comparison at)
row_at r (first ∷ known) [] i comparison are at = absurd are
row_at r (first ∷ known) (row ∷ rows) zero comparison are at = (
  row,
  refl,
  subst (λ (c : Known). IsRowOf r c.negated (tree_view c.tree.now) row) (same_Some first comparison at) are.0,
)
row_at r (first ∷ known) (row ∷ rows) (suc i) comparison are at = row_at r known rows i comparison are.1 at

-- one more comparison with its row
pub rows_more : (r : Recorded) (known : List Known) (rows : List TruthRow) (comparison : Known) (row : TruthRow)
    → AreRowsOf r known rows → IsRowOf r comparison.negated (tree_view comparison.tree.now) row
    → AreRowsOf r (known ++ comparison ∷ []) (rows ++ row ∷ [])
rows_more r [] [] comparison row are is = (is, tt)
rows_more r [] (first ∷ rows) comparison row are is = absurd are
rows_more r (other ∷ known) [] comparison row are is = absurd are
rows_more r (other ∷ known) (first ∷ rows) comparison row are is =
    (are.0, rows_more r known rows comparison row are.1 is)

-- an equal comparison has the same row
pub made_shared : (r : Recorded) (known : List Known) (rows : List TruthRow) (wanted : Known) (number : ℕ)
    → AreRowsOf r known rows → IsNumberOf known wanted number
    → MakesTerms r wanted.negated (tree_view wanted.tree.now) rows rows ((number ∷ []) ∷ [])
made_shared r known rows wanted number are found =
    let w : (row : TruthRow) × (slice_get rows number ≡ Some row)
    × IsRowOf r found.comparison.negated (tree_view found.comparison.tree.now) row =
    row_at r known rows number found.comparison are found.at in
    made_known r wanted.negated (tree_view wanted.tree.now) rows number w.0 w.1
    (subst (λ (negated : Bool). IsRowOf r negated (tree_view wanted.tree.now) w.0) found.alike
    (subst (λ (p : Predicate). IsRowOf r found.comparison.negated p w.0) found.same w.2))
