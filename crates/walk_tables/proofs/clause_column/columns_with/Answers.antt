-- One further column is placed.
use Rattle.std.proofs.Common.{◌≡◌, ◌∙◌, List, [], ◌∷◌, ◌++◌, ◌||◌, ◌-◌, Bool, false, cond, nat_lt, ap, get_or}
use Rattle.walk_tables.specs.Rows.{columns_have, moved, row_has}
use Rattle.walk_tables.specs.declared.clause_column.ClauseColumn.{ClauseColumn}
use Rattle.walk_tables.proofs.Conjunctions.{columns_append, moved_either, moved_more}
use Rattle.walk_tables.proofs.clause_column.columns_with.Goals as goal

pub loop-column-preserved : goal.loop-column-preserved
loop-column-preserved c counts j small =
    let by = c.args.by in
    let column = c.in-Some.column in
    let later = c.pop.new.self.items in
    let items : c.loop-column.rest.items ≡ later ++ column ∷ [] = c.in-Some.ensures.items in
    let n = get_or counts column.process 0 in
    let rest = ap (λ (cs : List ClauseColumn). moved by (columns_have cs counts) j) items
    ∙ ap (λ (t : Bool). cond (nat_lt j by) false t) (columns_append later column counts (j - by))
    ∙ moved_either by j (row_has column.row n) (columns_have later counts) in
    let more = c.in_ok-all.ensures counts j
    ∙ ap (λ (t : Bool). t || columns_have c.loop-column.all.items counts j) (c.moved_up-row.ensures n j small) in
    moved_more (columns_have c.loop-column.all.items counts j) (moved by (row_has column.row n) j)
    (moved by (columns_have later counts) j) (moved by (columns_have c.loop-column.rest.items counts) j) _ _ more rest
    (c.loop-column.invariant counts j small)
