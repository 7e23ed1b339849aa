-- What columns add, one column after another.
use Rattle.std.proofs.Common.{◌≡◌, ℕ, ℤ, pos, ◌+◌, ◌<◌, ◌≤◌, ◌⊎◌, inl, inr, List, [], ◌∷◌, ◌++◌, length, get_or, drop, ap, sym, ◌∙◌, ◌+ℤ◌, arith}
use Rattle.std.proofs.lemmas.Int.{ints}
use Rattle.std.proofs.lemmas.List.{at_drop_more, get_or_default, get_or_past}
use Rattle.walk_tables.specs.Tables.{columns_value, table_at}
use Rattle.walk_tables.specs.declared.linear.Column.{Column}

pub columns_step : (items : List Column) (i : ℕ) (item : Column) (counts : List ℕ) → i < length items
    → item ≡ get_or items i item → columns_value (drop i items) counts
    ≡ table_at item.table (get_or counts item.process 0) +ℤ columns_value (drop (i + 1) items) counts
columns_step items i item counts lt is =
    at_drop_more (λ columns. columns_value columns counts) items i item lt
    ∙ ap (λ (column : Column). table_at column.table (get_or counts column.process 0)
    +ℤ columns_value (drop (i + 1) items) counts) (sym is)

pub columns_push : (columns : List Column) (column : Column) (counts : List ℕ)
    → columns_value (columns ++ column ∷ []) counts
    ≡ columns_value columns counts +ℤ table_at column.table (get_or counts column.process 0)
columns_push [] column counts = omega (arith, ints)
columns_push (first ∷ rest) column counts = omega (arith, ints, columns_push rest column counts)

-- lists of one length that are the same at each place
pub same_numbers : (first second : List ℤ) → length first ≡ length second
    → ((k : ℕ) → k < length first → get_or first k (pos 0) ≡ get_or second k (pos 0))
    → (n : ℕ) (d : ℤ) → get_or first n d ≡ get_or second n d
same_numbers first second long same n d = go compare
  where
    compare : (n < length first) ⊎ (length first ≤ n)
    compare = grind arith

    go : ((n < length first) ⊎ (length first ≤ n)) → get_or first n d ≡ get_or second n d
    go (inl lt) =
        get_or_default first n d (pos 0) lt ∙ same n lt
        ∙ sym (get_or_default second n d (pos 0) (omega (arith, long, lt)))
    go (inr le) = get_or_past first n d le ∙ sym (get_or_past second n d (omega (arith, long, le)))
