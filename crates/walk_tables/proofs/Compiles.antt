-- Columns and tables of the parts of two sums, and what they add up to.
use Rattle.std.proofs.Common.{◌≡◌, ℕ, suc, ◌+◌, ◌<◌, List, [], ◌∷◌, ◌++◌, length, get_or, ap, sym, subst, ◌∙◌, ℤ, pos, ◌+ℤ◌, ◌-ℤ◌, arith, length-append}
use Rattle.std.proofs.lemmas.Int.{ints}
use Rattle.std.proofs.lemmas.List.{get_or_append_left, get_or_past}
use Rattle.def_model.specs.Cuts.{FitsProcesses}
use Rattle.def_model.specs.Predicates.{Recorded, Sign, Term, state_at, sum_value}
use Rattle.pd_pred.specs.Trees.{comparison_view}
use Rattle.walk_tables.specs.Parts.{IsRowOf, SpeakBelow, numbers_value, part_of_difference, row_at}
use Rattle.walk_keys.specs.Neighbors.{cut_at}
use Rattle.walk_tables.specs.Tables.{HaveParts, IsTableOf, columns_value, compares_at, table_at}
use Rattle.walk_tables.specs.declared.linear.Column.{Column}
use Rattle.pd_pred.specs.declared.tree.Comparison.{Comparison}
use Rattle.walk_tables.specs.Zero.{compares_with_zero}
use Rattle.walk_tables.specs.declared.table.Table.{Table}
use Rattle.walk_tables.proofs.Columns.{columns_push}
use Rattle.walk_tables.proofs.Differences.{compares_difference, sum_split}
use Rattle.walk_tables.proofs.Runs.{across_at, down_at}

-- one process more that has a column
pub column_more : (r : Recorded) (left right : List (Sign × Term)) (p : ℕ) (row : List ℤ) (columns : List Column)
    (column : Column) → IsRowOf r left right p row → 0 < length row → column.process ≡ p
    → ((n : ℕ) → n < length row → table_at column.table n ≡ row_at row n) → HaveParts r left right p columns
    → HaveParts r left right (suc p) (columns ++ column ∷ [])
column_more r left right p row columns column is_row some at_p same kept = λ prefix rest long fits.
    let here : get_or (prefix ++ rest) p 0 ≡ get_or prefix p 0 = get_or_append_left prefix rest 0 p (omega arith) in
    let within : get_or prefix p 0 < length row = omega (arith, here, fits p, is_row.long some) in
    let column_is : table_at column.table (get_or prefix column.process 0)
    ≡ part_of_difference (state_at r.initial r.events (prefix ++ rest)) p left right =
    ap (λ (q : ℕ). table_at column.table (get_or prefix q 0)) at_p ∙ same (get_or prefix p 0) within
    ∙ ap (row_at row) (sym here) ∙ is_row.adds (prefix ++ rest) (fits p) in
    let earlier = kept prefix rest (omega arith) fits in
    omega (arith, ints, columns_push columns column prefix, column_is, earlier)

-- one process more that has none
pub column_less : (r : Recorded) (left right : List (Sign × Term)) (p : ℕ) (row : List ℤ) (columns : List Column)
    → IsRowOf r left right p row → length row ≡ 0 → HaveParts r left right p columns
    → HaveParts r left right (suc p) columns
column_less r left right p row columns is_row none kept = λ prefix rest long fits.
    let nothing : row_at row (get_or (prefix ++ rest) p 0) ≡ pos 0 =
    get_or_past row (get_or (prefix ++ rest) p 0) (pos 0) (omega arith) in
    let part = is_row.adds (prefix ++ rest) (fits p) in
    let earlier = kept prefix rest (omega arith) fits in
    omega (arith, ints, nothing, part, earlier)

-- a comparison by tables is the comparison of the sums
pub linear_is : (r : Recorded) (left right : List (Sign × Term)) (comparison : Comparison) (constant : ℤ)
    (columns : List Column) (across down : Table) (n : ℕ) → length r.events ≡ suc (suc n)
    → SpeakBelow (suc (suc n)) left → SpeakBelow (suc (suc n)) right
    → constant ≡ numbers_value left -ℤ numbers_value right → HaveParts r left right n columns
    → IsTableOf r left right n across → IsTableOf r left right (suc n) down → (prefix : List ℕ) (x y : ℕ)
    → FitsProcesses r.events (cut_at prefix x y)
    → compares_with_zero comparison
    (((constant +ℤ columns_value columns prefix) +ℤ table_at across x) +ℤ table_at down y)
    ≡ compares_at r left (comparison_view comparison) right (cut_at prefix x y)
linear_is r left right comparison constant columns across down n few left_below right_below constant_is have across_of
    down_of prefix x y fits =
    let long : length (cut_at prefix x y) ≡ length prefix + 2 = length-append prefix (x ∷ y ∷ []) in
    let there : length prefix ≡ n = omega (arith, long, fits.one_each, few) in
    let x_is : get_or (cut_at prefix x y) n 0 ≡ x =
    subst (λ (k : ℕ). get_or (cut_at prefix x y) k 0 ≡ x) there (across_at prefix x y) in
    let next : length prefix + 1 ≡ suc n = omega (arith, there) in
    let y_is : get_or (cut_at prefix x y) (suc n) 0 ≡ y =
    subst (λ (k : ℕ). get_or (cut_at prefix x y) k 0 ≡ y) next (down_at prefix x y) in
    let state = state_at r.initial r.events (cut_at prefix x y) in
    let across_is : table_at across x ≡ part_of_difference state n left right =
    ap (table_at across) (sym x_is) ∙ across_of (cut_at prefix x y) (fits.within n) in
    let down_is : table_at down y ≡ part_of_difference state (suc n) left right =
    ap (table_at down) (sym y_is) ∙ down_of (cut_at prefix x y) (fits.within (suc n)) in
    let columns_are = have prefix (x ∷ y ∷ []) (omega (arith, there)) fits.within in
    compares_difference comparison (sum_value state left) (sum_value state right)
    (((constant +ℤ columns_value columns prefix) +ℤ table_at across x) +ℤ table_at down y)
    (
    omega (
      arith,
      ints,
      constant_is,
      columns_are,
      across_is,
      down_is,
      sum_split state (suc (suc n)) left left_below,
      sum_split state (suc (suc n)) right right_below,
    )
    )
