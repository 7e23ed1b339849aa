-- The comparison's truth at each count of the last process.
use Rattle.std.proofs.Common.{◌≡◌, ◌∙◌, ◌||◌, List, Bool, false, pos, ap, arith}
use Rattle.std.proofs.lemmas.Int.{ints}
use Rattle.std.proofs.lemmas.List.{nil_from_length}
use Rattle.walk_tables.specs.Rows.{columns_have, row_has}
use Rattle.walk_tables.specs.Tables.{columns_value, linear_value}
use Rattle.walk_tables.specs.declared.clause_column.ClauseColumn.{ClauseColumn}
use Rattle.walk_tables.specs.declared.linear.Column.{Column}
use Rattle.walk_tables.proofs.Comparisons.{compares_along}
use Rattle.walk_tables.proofs.clause.down_clause.Goals as goal

pub returns : goal.returns
returns c prefix x y =
    let linear = c.args.linear.now in
    let row = c.in_ok-row.row in
    let nothing : columns_value linear.columns.items prefix ≡ pos 0 =
    ap (λ (cs : List Column). columns_value cs prefix) (nil_from_length linear.columns.items c.requires.none) in
    compares_along linear.comparison _ _ (linear_value linear prefix x y)
    (c.one.ensures prefix x y
    ∙ ap (λ (t : Bool). (columns_have c.new.result.items prefix 0 || t) || row_has row y 0) (c.none.ensures x 0)
    ∙ ap (λ (cs : List ClauseColumn). (columns_have cs prefix 0 || false) || row_has row y 0) c.new.ensures.items
    ∙ (c.in_ok-row.ensures y).0)
    (omega (arith, ints, nothing, c.at.ensures.value, c.at.ensures.small, c.requires.across 0 x))
