-- The column of the next event stands after the others of its process.
use Rattle.std.proofs.Common.{◌≡◌, ◌<◌, ℕ, List, [], ◌∷◌, ◌++◌, length, get_or, set, ◌+◌, sym, ap, ◌∙◌, subst, arith}
use Rattle.std.proofs.lemmas.List.{get_or_read, length-set}
use Rattle.def_model.specs.Cuts.{one_more}
use Rattle.pd_clock.proofs.OrderSteps.{go_within, in_list}
use Rattle.pd_clock.proofs.ClockRows.{rows_written, rows_kept, rows_read}
use Rattle.out_picture.specs.Tables.{HasColumns, row_of}
use Rattle.out_picture.proofs.TableSteps.{columns_more}
use Rattle.out_picture.proofs.columns.add.Goals as goal

pub returns-clause-columns : goal.returns-clause-columns
returns-clause-columns c =
    let there : c.args.p < length c.args.computation.now.events =
    go_within c.args.computation.now.events c.args.table.now.done.items c.args.p c.requires.goes in
    let read : c.index_mut-2.result.now ≡ get_or c.args.table.now.done.items c.args.p 0 =
    get_or_read c.args.table.now.done.items c.args.p c.index_mut-2.result.now
    (in_list c.args.computation.now.events c.args.table.now.done.items c.args.p c.requires.ordered c.requires.goes)
    c.index_mut-2.ensures.value 0 in
    let more : set c.args.table.now.done.items c.args.p (c.index_mut-2.result.now + 1)
    ≡ one_more c.args.table.now.done.items c.args.p =
    ap (λ (n : ℕ). set c.args.table.now.done.items c.args.p (n + 1)) read in
    let within : c.args.p < length c.args.table.now.rows.items = omega (arith, c.requires.columns.one_each) in
    let was : row_of c.args.table.now.rows.items c.args.p ≡ c.index_mut.result.now.items =
    rows_read c.args.table.now.rows.items c.args.p c.index_mut.result.now within c.index_mut.ensures.value in
    let here : row_of (set c.args.table.now.rows.items c.args.p c.push.new.self) c.args.p
    ≡ row_of c.args.table.now.rows.items c.args.p ++ c.next_column-column.result ∷ [] =
    rows_written c.args.table.now.rows.items c.args.p c.push.new.self within
    ∙ (c.in_ok-push.ensures.items ∙ ap (λ (row : List ℕ). row ++ c.next_column-column.result ∷ []) (sym was)) in
    subst (λ (done : List ℕ). HasColumns c.args.computation.now.events done
    (set c.args.table.now.rows.items c.args.p c.push.new.self)) (sym more)
    (columns_more c.args.computation.now.events c.args.table.now.done.items c.args.table.now.rows.items
    (set c.args.table.now.rows.items c.args.p c.push.new.self) c.args.p c.next_column-column.result
    c.requires.ordered c.requires.goes c.requires.columns c.next_column-column.ensures
    (length-set c.args.table.now.rows.items c.args.p c.push.new.self) here
    (rows_kept c.args.table.now.rows.items c.args.p c.push.new.self))
