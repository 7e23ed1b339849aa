-- What clauses are made true by, process by process.
use Rattle.std.specs.Prelude.{◌≡◌, ℕ, zero, suc, ◌-◌, ◌<◌, List, [], ◌∷◌, slice_index, slice_index_or, Bool, true, false, cond, ◌&&◌, ◌||◌, nat_lt}
use Rattle.walk_keys.specs.Words.{has_bit}
use Rattle.walk_tables.specs.Tables.{table_at}
use Rattle.walk_tables.specs.declared.table.Table.{Table}
use Rattle.walk_tables.specs.declared.row.ClauseRow.{ClauseRow}
use Rattle.walk_tables.specs.declared.clause_column.ClauseColumn.{ClauseColumn}

abbrev pub row_at : ClauseRow → ℕ → ℕ
row_at row n = slice_index_or row.words.items n row.beyond

-- whether a process makes clause j true with this count
abbrev pub row_has : ClauseRow → ℕ → ℕ → Bool
row_has row n j = has_bit (row_at row n) j

-- whether one of the first processes makes clause j true
abbrev pub columns_have : List ClauseColumn → List ℕ → ℕ → Bool
columns_have [] counts j = false
columns_have (column ∷ rest) counts j =
    row_has column.row (slice_index counts column.process) j || columns_have rest counts j

-- whether clause j is true at a cut
abbrev pub clause_holds : List ClauseColumn → ClauseRow → ClauseRow → List ℕ → ℕ → ℕ → ℕ → Bool
clause_holds columns across down prefix x y j =
    (columns_have columns prefix j || row_has across x j) || row_has down y j

-- whether all truths below n are true
abbrev pub all_below : ℕ → (ℕ → Bool) → Bool
all_below zero truths = true
all_below (suc n) truths = all_below n truths && truths n

-- the truths with as many false ones before them
abbrev pub moved : ℕ → (ℕ → Bool) → ℕ → Bool
moved by truths j = cond (nat_lt j by) false (truths (j - by))

-- the word has a truth as its lowest bit, and no others
abbrev pub IsSingle : Bool → ℕ → Type 0
IsSingle truth word = (has_bit word 0 ≡ truth) × ((j : ℕ) → 0 < j → has_bit word j ≡ false)

-- the table has the same number at each count
abbrev pub IsLevel : Table → Type 0
IsLevel table = (m n : ℕ) → table_at table m ≡ table_at table n
