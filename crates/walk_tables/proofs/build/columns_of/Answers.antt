-- The column of one process more, if it has one.
use Rattle.std.proofs.Common.{◌≡◌, ◌+◌, ◌<◌, ◌++◌, ◌∷◌, [], ℕ, suc, List, arith, rules, length, subst, sym, ap, ◌∙◌, Vec, vec_len}
use Rattle.std.specs.Global.{Global}
use Rattle.pd_pred.specs.Trees.{terms_view}
use Rattle.walk_tables.specs.Parts.{IsRowOf}
use Rattle.walk_tables.specs.Tables.{HaveParts}
use Rattle.walk_tables.specs.declared.linear.Column.{Column}
use Rattle.walk_tables.proofs.Compiles.{column_less, column_more}
use Rattle.walk_tables.proofs.build.columns_of.Goals as goal
use Rattle.walk_tables.proofs.build.columns_of.Goals.{then-not-is_empty+in_ok-push, else-not-is_empty}

pub loop-process-preserved : goal.loop-process-preserved
loop-process-preserved c =
    let r = c.args.computation.now in
    let left = terms_view c.args.left.now in
    let right = terms_view c.args.right.now in
    let p = c.loop-process.process in
    let row = c.in-Some.row.items in
    let is_row : IsRowOf r left right p row = rw c.in-Some.is at c.in_ok-row.ensures in
    let next : suc p ≡ p + 1 = omega arith in
    let kept = c.loop-process.invariant in
    elim c.if-not-is_empty.branch [
      | then-not-is_empty+in_ok-push w ↦
          let some : 0 < length row = search rules in
          let column : Column = record { process = p; table = w.new-table.result } in
          let more =
          column_more r left right p row c.loop-process.columns.items column is_row some (λ i. p)
          w.new-table.ensures.within kept.parts in
          let items : c.if-not-is_empty.columns.items ≡ c.loop-process.columns.items ++ column ∷ [] =
          ap (λ (v : Vec Column Global). v.items) w.columns-is ∙ w.in_ok-push.ensures.items in
          let len : vec_len c.if-not-is_empty.columns ≡ vec_len w.push.new.self =
          ap (λ (v : Vec Column Global). vec_len v) w.columns-is in
          record {
            few = omega (arith, len, w.in_ok-push.ensures.len, kept.few);
            parts = subst (λ (k : ℕ). HaveParts r left right k c.if-not-is_empty.columns.items) next
                (subst (λ (cs : List Column). HaveParts r left right (suc p) cs) (sym items) more);
          }
      | else-not-is_empty w ↦
          let none : length row ≡ 0 = search rules in
          let less = column_less r left right p row c.loop-process.columns.items is_row none kept.parts in
          let items : c.if-not-is_empty.columns.items ≡ c.loop-process.columns.items =
          ap (λ (v : Vec Column Global). v.items) w.columns-is in
          let len : vec_len c.if-not-is_empty.columns ≡ vec_len c.loop-process.columns =
          ap (λ (v : Vec Column Global). vec_len v) w.columns-is in
          record {
            few = omega (arith, len, kept.few);
            parts = subst (λ (k : ℕ). HaveParts r left right k c.if-not-is_empty.columns.items) next
                (subst (λ (cs : List Column). HaveParts r left right (suc p) cs) (sym items) less);
          }
    ]
