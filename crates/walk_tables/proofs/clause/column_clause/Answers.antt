-- The comparison's truth at each count of one of the first processes.
use Rattle.std.proofs.Common.{◌≡◌, ◌∙◌, ◌||◌, ℕ, List, [], ◌∷◌, length, get_or, Bool, false, pos, ◌+ℤ◌, ap, sym, ◌++◌, arith, rules}
use Rattle.std.proofs.lemmas.Int.{ints}
use Rattle.walk_tables.specs.Rows.{clause_holds, row_has}
use Rattle.walk_tables.specs.Tables.{columns_value, linear_value, table_at}
use Rattle.walk_tables.specs.declared.clause_column.ClauseColumn.{ClauseColumn}
use Rattle.walk_tables.specs.declared.linear.Column.{Column}
use Rattle.walk_tables.proofs.Comparisons.{compares_along}
use Rattle.walk_tables.proofs.Conjunctions.{or_false}
use Rattle.walk_tables.proofs.clause.column_clause.Goals as goal

one_column : (columns : List Column) (column : Column) (prefix : List ℕ) → length columns ≡ 1
    → column ≡ get_or columns 0 column
    → columns_value columns prefix ≡ table_at column.table (get_or prefix column.process 0) +ℤ pos 0
one_column [] column prefix one is = absurd (omega (arith, one))
one_column (first ∷ []) column prefix one is =
    ap (λ (only : Column). table_at only.table (get_or prefix only.process 0) +ℤ pos 0) (sym is)
one_column (first ∷ second ∷ rest) column prefix one is = absurd (omega (arith, one))

-- a clause of one column is that of its row
one_row : (column across down : Bool) → across ≡ false → down ≡ false
    → (((column || false) || across) || down) ≡ column
one_row column across down across_is down_is =
    (λ i. ((column || false) || across_is i) || down_is i) ∙ or_false ((column || false) || false)
    ∙ or_false (column || false) ∙ or_false column

pub of_truths-requires : goal.of_truths-requires
of_truths-requires c =
    omega (arith, ints, c.at.ensures.small, c.at-2.ensures.small, c.args.linear.now.small)

pub one-requires : goal.one-requires
one-requires c prefix x y j past =
    let column : ClauseColumn = record { process = c.index-column.result.now.process; row = c.in_ok-row.row } in
    let items : c.push.new.self.items ≡ column ∷ [] =
    c.in_ok-push.ensures.items ∙ ap (λ (cs : List ClauseColumn). cs ++ column ∷ []) c.in_ok-columns.ensures.items in
    let n = get_or prefix column.process 0 in
    ap (λ (cs : List ClauseColumn). clause_holds cs c.none.result c.none-2.result prefix x y j) items
    ∙ one_row (row_has column.row n j) (row_has c.none.result x j) (row_has c.none-2.result y j) (c.none.ensures x j)
    (c.none-2.ensures y j)
    ∙ (c.in_ok-row.ensures n).1 j past

pub returns : goal.returns
returns c prefix x y =
    let linear = c.args.linear.now in
    let column : ClauseColumn = record { process = c.index-column.result.now.process; row = c.in_ok-row.row } in
    let items : c.push.new.self.items ≡ column ∷ [] =
    c.in_ok-push.ensures.items ∙ ap (λ (cs : List ClauseColumn). cs ++ column ∷ []) c.in_ok-columns.ensures.items in
    let n = get_or prefix column.process 0 in
    let only : columns_value linear.columns.items prefix ≡ table_at c.index-column.result.now.table n +ℤ pos 0 =
    one_column linear.columns.items c.index-column.result.now prefix c.requires.one (search rules) in
    compares_along linear.comparison _ _ (linear_value linear prefix x y)
    (c.one.ensures prefix x y
    ∙ ap (λ (cs : List ClauseColumn). clause_holds cs c.none.result c.none-2.result prefix x y 0) items
    ∙ one_row (row_has column.row n 0) (row_has c.none.result x 0) (row_has c.none-2.result y 0) (c.none.ensures x 0)
    (c.none-2.ensures y 0)
    ∙ (c.in_ok-row.ensures n).0)
    (
    omega (
      arith,
      ints,
      only,
      c.at.ensures.value,
      c.at.ensures.small,
      c.at-2.ensures.value,
      c.at-2.ensures.small,
      c.args.linear.now.small,
      c.requires.across 0 x,
      c.requires.down 0 y,
    )
    )
