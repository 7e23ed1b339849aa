-- What a table has at a count.
use Rattle.std.specs.Prelude.{◌≡◌, ℕ, ◌≤◌, List, [], ◌∷◌, ◌++◌, length, ℤ, pos, ◌+ℤ◌, ◌-ℤ◌, slice_index, slice_index_or, Bool}
use Rattle.def_model.specs.Events.{event_count}
use Rattle.def_model.specs.Predicates.{Comparison, Sign, Term, Recorded, compares, state_at, sum_value}
use Rattle.walk_tables.specs.Zero.{compares_with_zero}
use Rattle.walk_tables.specs.Parts.{part_of_difference, parts_below}
use Rattle.walk_tables.specs.declared.table.Table.{Table}
use Rattle.walk_tables.specs.declared.linear.Column.{Column}
use Rattle.walk_tables.specs.declared.linear.Linear.{Linear}

abbrev pub table_at : Table → ℕ → ℤ
table_at table n = slice_index_or table.values.items n table.beyond

-- what the columns add at these counts
abbrev pub columns_value : List Column → List ℕ → ℤ
columns_value [] counts = pos 0
columns_value (column ∷ rest) counts =
    table_at column.table (slice_index counts column.process) +ℤ columns_value rest counts

-- the difference of the two sums that are compared, at a cut
abbrev pub linear_value : Linear → List ℕ → ℕ → ℕ → ℤ
linear_value linear prefix x y =
    ((linear.constant +ℤ columns_value linear.columns.items prefix) +ℤ table_at linear.across x)
    +ℤ table_at linear.down y

abbrev pub linear_holds : Linear → List ℕ → ℕ → ℕ → Bool
linear_holds linear prefix x y = compares_with_zero linear.comparison (linear_value linear prefix x y)

-- the sums of two comparisons differ by their constants alone
abbrev pub IsSameSum : Linear → Linear → Type 0
IsSameSum first second =
    (prefix : List ℕ) (x y : ℕ)
    → linear_value first prefix x y -ℤ first.constant ≡ linear_value second prefix x y -ℤ second.constant

-- the table has what process p adds to the difference of two sums, by the count of its events
abbrev pub IsTableOf : Recorded → List (Sign × Term) → List (Sign × Term) → ℕ → Table → Type 0
IsTableOf r left right p table =
    (counts : List ℕ) → slice_index counts p ≤ event_count r.events p
    → table_at table (slice_index counts p) ≡ part_of_difference (state_at r.initial r.events counts) p left right

-- The columns add what the first processes add to the difference of two sums, at each cut. They are as many as the
-- prefix has counts, or fewer.
abbrev pub HaveParts : Recorded → List (Sign × Term) → List (Sign × Term) → ℕ → List Column → Type 0
HaveParts r left right processes columns =
    (prefix rest : List ℕ) → processes ≤ length prefix
    → ((p : ℕ) → slice_index (prefix ++ rest) p ≤ event_count r.events p)
    → columns_value columns prefix
    ≡ parts_below (state_at r.initial r.events (prefix ++ rest)) processes left
    -ℤ parts_below (state_at r.initial r.events (prefix ++ rest)) processes right

-- whether two sums compare like this at a cut
abbrev pub compares_at : Recorded → List (Sign × Term) → Comparison → List (Sign × Term) → List ℕ → Bool
compares_at r left comparison right cut =
    compares comparison (sum_value (state_at r.initial r.events cut) left)
    (sum_value (state_at r.initial r.events cut) right)
