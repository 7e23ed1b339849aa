-- The column of the next event, by the column before it and that of its send.
use Rattle.std.proofs.Common.{◌≡◌, ◌∙◌, ◌+◌, ap, ◌<◌, ◌≤◌, ℕ, List, length, get_or, max, sym, subst, arith}
use Rattle.std.specs.Prelude.{Vec, IfSome}
use Rattle.std.specs.Global.{Global}
use Rattle.std.proofs.lemmas.List.{get_or_read}
use Rattle.def_model.specs.Cuts.{total}
use Rattle.def_model.specs.Events.{place}
use Rattle.out_picture.specs.Tables.{IsNextColumn, column_at, column_of, row_of}
use Rattle.pd_clock.proofs.OrderSteps.{in_list}
use Rattle.out_picture.proofs.TableSteps.{sent_there, next_is, columns_below}
use Rattle.out_picture.proofs.columns.next_column.Goals as goal

pub column_of-sent-requires : goal.column_of-sent-requires
column_of-sent-requires c =
    let read : c.index-number.result.now ≡ get_or c.args.table.now.done.items c.args.p 0 =
    get_or_read c.args.table.now.done.items c.args.p c.index-number.result.now
    (in_list c.args.computation.now.events c.args.table.now.done.items c.args.p c.requires.ordered c.requires.goes)
    c.index-number.ensures 0 in
    subst (λ (rows : List (Vec ℕ Global)). IfSome c.sender-send.result (λ e. (e.process < length rows)
    × (e.number < length (row_of rows e.process)))) (sym c.deref-2.ensures.value)
    (sent_there c.args.computation.now.events c.args.table.now.done.items c.args.table.now.rows.items c.args.p
    c.index-number.result.now c.sender-send.result c.requires.ordered c.requires.columns c.requires.goes read
    c.sender-send.ensures)

pub overflow_add-result : goal.overflow_add-result
overflow_add-result c =
    let read : c.index-number.result.now ≡ get_or c.args.table.now.done.items c.args.p 0 =
    get_or_read c.args.table.now.done.items c.args.p c.index-number.result.now
    (in_list c.args.computation.now.events c.args.table.now.done.items c.args.p c.requires.ordered c.requires.goes)
    c.index-number.ensures 0 in
    let own : c.column_of-previous.result
    ≡ column_at c.args.table.now.rows.items (place c.args.p c.index-number.result.now) =
    c.column_of-previous.ensures
    ∙ ap (λ (rows : List (Vec ℕ Global)). column_at rows (place c.args.p c.index-number.result.now))
    c.deref.ensures.value in
    let sent : c.column_of-sent.result ≡ column_of c.args.table.now.rows.items c.sender-send.result =
    c.column_of-sent.ensures ∙ ap (λ (rows : List (Vec ℕ Global)). column_of rows c.sender-send.result)
    c.deref-2.ensures.value in
    let below : max c.column_of-previous.result c.column_of-sent.result ≤ total c.args.computation.now.events =
    columns_below c.args.computation.now.events c.args.table.now.done.items c.args.table.now.rows.items c.args.p
    c.index-number.result.now c.column_of-previous.result c.column_of-sent.result c.sender-send.result
    c.requires.ordered c.requires.columns c.requires.goes read c.sender-send.ensures own sent in
    omega (arith, c.max.ensures, c.requires.few)

pub returns : goal.returns
returns c =
    let read : c.index-number.result.now ≡ get_or c.args.table.now.done.items c.args.p 0 =
    get_or_read c.args.table.now.done.items c.args.p c.index-number.result.now
    (in_list c.args.computation.now.events c.args.table.now.done.items c.args.p c.requires.ordered c.requires.goes)
    c.index-number.ensures 0 in
    let own : c.column_of-previous.result
    ≡ column_at c.args.table.now.rows.items (place c.args.p c.index-number.result.now) =
    c.column_of-previous.ensures
    ∙ ap (λ (rows : List (Vec ℕ Global)). column_at rows (place c.args.p c.index-number.result.now))
    c.deref.ensures.value in
    let sent : c.column_of-sent.result ≡ column_of c.args.table.now.rows.items c.sender-send.result =
    c.column_of-sent.ensures ∙ ap (λ (rows : List (Vec ℕ Global)). column_of rows c.sender-send.result)
    c.deref-2.ensures.value in
    subst (λ (n : ℕ). IsNextColumn c.args.computation.now.events c.args.table.now.done.items
    c.args.table.now.rows.items c.args.p (n + 1)) (sym c.max.ensures)
    (next_is c.args.computation.now.events c.args.table.now.done.items c.args.table.now.rows.items c.args.p
    c.index-number.result.now c.column_of-previous.result c.column_of-sent.result c.sender-send.result read
    c.sender-send.ensures own sent)
