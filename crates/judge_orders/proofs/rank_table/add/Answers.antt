-- The row of the next event stands after the others of its process.
use Rattle.std.proofs.Common.{◌≡◌, ◌<◌, ℕ, List, length, get_or, set, ◌+◌, ◌++◌, sym, ap, ◌∙◌, subst, arith}
use Rattle.std.proofs.lemmas.List.{length-set}
use Rattle.def_model.specs.Cuts.{one_more}
use Rattle.pd_clock.proofs.ClockRows.{rows_kept, rows_read, rows_written}
use Rattle.pd_clock.proofs.OrderSteps.{go_within}
use Rattle.read_traces.specs.Views.{computation_view}
use Rattle.judge_orders.specs.Lists.{lists_view}
use Rattle.judge_orders.specs.RankTables.{HasRanks, rows_of}
use Rattle.judge_orders.proofs.Places.{lists_length}
use Rattle.judge_orders.proofs.RankRows.{ranks_more}
use Rattle.judge_orders.proofs.rank_table.add.Goals as goal

pub returns-clause-ranks : goal.returns-clause-ranks
returns-clause-ranks c =
    let run = computation_view c.args.traces.now in
    let numbers = lists_view c.args.numbers.now in
    let done = c.args.table.now.done.items in
    let rows = c.args.table.now.rows.items in
    let after = set rows c.args.p c.extend_from_slice.new.self in
    let there : c.args.p < length run = go_within run done c.args.p c.requires.goes in
    let within : c.args.p < length rows = omega (arith, there, c.requires.table.ranks.one_each) in
    let more : set done c.args.p c.next_number-number.result ≡ one_more done c.args.p =
    ap (set done c.args.p)
    (c.next_number-number.ensures ∙ ap (λ (xs : List ℕ). get_or xs c.args.p 0 + 1) c.deref.ensures.value) in
    let was : rows_of rows c.args.p ≡ c.index_mut.result.now.items =
    rows_read rows c.args.p c.index_mut.result.now within c.index_mut.ensures.value in
    let wide : length c.next_row.new.row ≡ length run =
    omega (
      arith,
      c.next_row.ensures.room,
      c.requires.table.numbers_there.one_each,
      lists_length c.args.numbers.now,
    ) in
    let here : rows_of after c.args.p ≡ rows_of rows c.args.p ++ c.next_row.new.row =
    rows_written rows c.args.p c.extend_from_slice.new.self within
    ∙ (c.in_ok-extend_from_slice.ensures.items ∙ ap (λ (xs : List ℕ). xs ++ c.next_row.new.row) (sym was)) in
    subst (λ (all : List ℕ). HasRanks run numbers all after) (sym more)
    (ranks_more run numbers done rows after c.args.p c.next_row.new.row c.requires.table.ordered c.requires.goes
    c.requires.table.ranks wide c.next_row.ensures.ranks (length-set rows c.args.p c.extend_from_slice.new.self) here
    (rows_kept rows c.args.p c.extend_from_slice.new.self))
