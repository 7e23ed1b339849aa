-- A clause of both conjunctions is one of the first, or one of the second.
use Rattle.std.proofs.Common.{◌∙◌, ◌-◌, ◌||◌, Bool, ap, arith}
use Rattle.walk_tables.specs.Rows.{clause_holds, columns_have, moved, row_has}
use Rattle.walk_tables.proofs.Conjunctions.{all_below_same, moved_clear, united_at}
use Rattle.walk_tables.proofs.clauses.Clauses.united.Goals as goal

pub new-requires-clause-clear : goal.new-requires-clause-clear
new-requires-clause-clear c prefix x y j past small =
    let first = c.args.first in
    let second = c.args.second in
    let by = c.args.by in
    let holds = clause_holds second.columns.items second.across second.down prefix x y in
    united_at by j (columns_have first.columns.items prefix j) (row_has first.across x j) (row_has first.down y j)
    (columns_have second.columns.items prefix) (row_has second.across x) (row_has second.down y) _ _ _
    (c.in_ok-columns.ensures prefix j small)
    (c.either-across.ensures x j ∙ ap (λ (t : Bool). row_has first.across x j || t) (c.moved_up.ensures x j small))
    (c.either-down.ensures y j ∙ ap (λ (t : Bool). row_has first.down y j || t) (c.moved_up-2.ensures y j small))
    ∙ ap (λ (t : Bool). t || moved by holds j) (first.clear prefix x y j (omega (arith, c.requires.first)) small)
    ∙ moved_clear by j holds
    (second.clear prefix x y (j - by) (omega (arith, c.requires.second)) (omega (arith, small)))

pub returns : goal.returns
returns c prefix x y =
    let first = c.args.first in
    let second = c.args.second in
    let by = c.args.by in
    c.new.ensures prefix x y
    ∙ all_below_same c.args.count
    (clause_holds c.in_ok-columns.columns.items c.either-across.result c.either-down.result prefix x y)
    (λ j. clause_holds first.columns.items first.across first.down prefix x y j
    || moved by (clause_holds second.columns.items second.across second.down prefix x y) j)
    (λ j lt.
    united_at by j (columns_have first.columns.items prefix j) (row_has first.across x j) (row_has first.down y j)
    (columns_have second.columns.items prefix) (row_has second.across x) (row_has second.down y) _ _ _
    (c.in_ok-columns.ensures prefix j (omega (arith, lt, c.requires.few)))
    (c.either-across.ensures x j
    ∙ ap (λ (t : Bool). row_has first.across x j || t)
    (c.moved_up.ensures x j (omega (arith, lt, c.requires.few))))
    (c.either-down.ensures y j
    ∙ ap (λ (t : Bool). row_has first.down y j || t)
    (c.moved_up-2.ensures y j (omega (arith, lt, c.requires.few)))))
