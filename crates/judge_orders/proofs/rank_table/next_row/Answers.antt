-- What the next event of a process knows of.
use Rattle.std.proofs.Common.{◌≡◌, ◌<◌, ◌≤◌, ◌+◌, ◌-◌, ℕ, List, [], length, get_or, max, sym, ap, ◌∙◌, subst, arith}
use Rattle.std.specs.Prelude.{AllPairs, IfSome, None, Option, Some, Vec, option_map, slice_index_or}
use Rattle.std.specs.Global.{Global}
use Rattle.def_format.specs.Limits.{event_limit}
use Rattle.def_model.specs.Cuts.{Includes}
use Rattle.def_orders.specs.Orders.{count_up_to}
use Rattle.pd_clock.specs.Orders.{count_of, next_of}
use Rattle.pd_clock.proofs.OrderSteps.{IsSendOf, go_within, sent_some}
use Rattle.pd_match.specs.Views.{place_view}
use Rattle.pd_match.specs.declared.place.Place.{Place}
use Rattle.read_traces.specs.Views.{computation_view}
use Rattle.judge_orders.specs.Lists.{lists_view}
use Rattle.judge_orders.specs.RankTables.{IsWithNumber}
use Rattle.judge_orders.proofs.Places.{list_at, lists_length}
use Rattle.judge_orders.proofs.RankRows.{has_rows, next_before, next_ranks, next_send, own_before}
use Rattle.judge_orders.proofs.rank_table.next_row.Goals as goal

view_some : (done : List ℕ) (o : Option Place) → IfSome (option_map place_view o) (λ e. Includes done e)
    → IfSome o (λ e. Includes done (place_view e))
view_some done None h = tt
view_some done (Some e) h = h

-- the number of the next event, as it was read
number_read : (done read : List ℕ) (p number : ℕ) → number ≡ get_or read p 0 + 1 → read ≡ done
    → number ≡ get_or done p 0 + 1
number_read done read p number is same = is ∙ ap (λ (xs : List ℕ). get_or xs p 0 + 1) same

-- a process's numbers, as they were read
numbers_read : (numbers : List (Vec ℕ Global)) (p : ℕ) (d : Vec ℕ Global) (read : List ℕ) → p < length numbers
    → read ≡ d.items → d ≡ get_or numbers p d → slice_index_or (lists_view numbers) p [] ≡ read
numbers_read numbers p d read lt same is =
    list_at numbers p d lt ∙ (ap (λ (list : Vec ℕ Global). list.items) (sym is) ∙ sym same)

pub rank_in-past-requires-clause-rows : goal.rank_in-past-requires-clause-rows
rank_in-past-requires-clause-rows c =
    has_rows (computation_view c.args.traces.now) (lists_view c.args.numbers.now) c.args.table.now.done.items
    c.args.table.now.rows.items c.requires.table.ordered c.requires.table.ranks

pub rank_in-sent-requires-clause-rows : goal.rank_in-sent-requires-clause-rows
rank_in-sent-requires-clause-rows c =
    has_rows (computation_view c.args.traces.now) (lists_view c.args.numbers.now) c.args.table.now.done.items
    c.args.table.now.rows.items c.requires.table.ordered c.requires.table.ranks

pub rank_in-requires-clause-rows : goal.rank_in-requires-clause-rows
rank_in-requires-clause-rows c =
    has_rows (computation_view c.args.traces.now) (lists_view c.args.numbers.now) c.args.table.now.done.items
    c.args.table.now.rows.items c.requires.table.ordered c.requires.table.ranks

pub rank_in-sent-requires-clause-there : goal.rank_in-sent-requires-clause-there
rank_in-sent-requires-clause-there c =
    let done = c.args.table.now.done.items in
    let sent = option_map place_view c.sender-send.result in
    view_some done c.sender-send.result
    (sent_some (computation_view c.args.traces.now) done c.args.p sent c.requires.goes
    (next_send (computation_view c.args.traces.now) c.args.matched.now done c.args.p c.next_number-number.result sent
    c.requires.table.messages
    (number_read done c.deref.result.now c.args.p c.next_number-number.result c.next_number-number.ensures
    c.deref.ensures.value) c.sender-send.ensures))

pub own_rank-requires-clause-ascend : goal.own_rank-requires-clause-ascend
own_rank-requires-clause-ascend c =
    let within : c.args.p < length (computation_view c.args.traces.now) =
    go_within (computation_view c.args.traces.now) c.args.table.now.done.items c.args.p c.requires.goes in
    let there : c.args.p < length (lists_view c.args.numbers.now) =
    omega (arith, within, c.requires.table.numbers_there.one_each) in
    subst (AllPairs (λ (k m : ℕ). k < m))
    (numbers_read c.args.numbers.now c.args.p c.index-numbers-p.result c.deref-2.result.now
    (omega (arith, there, lists_length c.args.numbers.now)) c.deref-2.ensures.value c.index-numbers-p.is)
    (c.requires.table.numbers_there.ascend c.args.p there)

pub own_rank-requires-clause-few : goal.own_rank-requires-clause-few
own_rank-requires-clause-few c =
    let within : c.args.p < length (computation_view c.args.traces.now) =
    go_within (computation_view c.args.traces.now) c.args.table.now.done.items c.args.p c.requires.goes in
    let there : c.args.p < length c.args.numbers.now =
    omega (arith, within, c.requires.table.numbers_there.one_each, lists_length c.args.numbers.now) in
    subst (λ (numbers : List ℕ). length numbers ≤ event_limit)
    (numbers_read c.args.numbers.now c.args.p c.index-numbers-p.result c.deref-2.result.now there
    c.deref-2.ensures.value c.index-numbers-p.is) (c.requires.table.numbers_there.few c.args.p)

pub own_rank-requires-clause-past : goal.own_rank-requires-clause-past
own_rank-requires-clause-past c =
    let run = computation_view c.args.traces.now in
    let numbers = lists_view c.args.numbers.now in
    let done = c.args.table.now.done.items in
    let rows = c.args.table.now.rows.items in
    let own = option_map place_view c.with_number-previous.result in
    let sent = option_map place_view c.sender-send.result in
    let within : c.args.p < length run = go_within run done c.args.p c.requires.goes in
    let there : c.args.p < length c.args.numbers.now =
    omega (arith, within, c.requires.table.numbers_there.one_each, lists_length c.args.numbers.now) in
    let number : c.next_number-number.result ≡ get_or done c.args.p 0 + 1 =
    number_read done c.deref.result.now c.args.p c.next_number-number.result c.next_number-number.ensures
    c.deref.ensures.value in
    let before : IsWithNumber c.args.p (get_or done c.args.p 0) own =
    next_before done c.args.p c.next_number-number.result own number c.with_number-previous.ensures in
    let send : IsSendOf run (next_of done c.args.p) sent =
    next_send run c.args.matched.now done c.args.p c.next_number-number.result sent c.requires.table.messages number
    c.sender-send.ensures in
    let known : count_of (length run) rows own c.args.p
    ≡ count_up_to (slice_index_or numbers c.args.p []) (get_or done c.args.p 0) =
    own_before run numbers done rows c.args.p own sent c.requires.table.numbers_there c.requires.table.ordered
    c.requires.table.ranks c.requires.goes before send in
    let back : get_or done c.args.p 0 ≡ c.next_number-number.result - 1 = omega (arith, number) in
    c.rank_in.ensures
    ∙ (ap (λ (n : ℕ). count_of n rows own c.args.p) c.requires.table.ordered.one_each
    ∙ (known
    ∙ (ap (λ (xs : List ℕ). count_up_to xs (get_or done c.args.p 0))
    (numbers_read c.args.numbers.now c.args.p c.index-numbers-p.result c.deref-2.result.now there
    c.deref-2.ensures.value c.index-numbers-p.is) ∙ ap (count_up_to c.deref-2.result.now) back)))

pub returns-clause-ranks : goal.returns-clause-ranks
returns-clause-ranks c = λ q lt.
    let run = computation_view c.args.traces.now in
    let numbers = lists_view c.args.numbers.now in
    let done = c.args.table.now.done.items in
    let rows = c.args.table.now.rows.items in
    let own = option_map place_view c.with_number-previous.result in
    let sent = option_map place_view c.sender-send.result in
    let within : c.args.p < length run = go_within run done c.args.p c.requires.goes in
    let many : length run ≡ length c.args.numbers.now =
    omega (arith, c.requires.table.numbers_there.one_each, lists_length c.args.numbers.now) in
    let there : c.args.p < length c.args.numbers.now = omega (arith, within, many) in
    let number : c.next_number-number.result ≡ get_or done c.args.p 0 + 1 =
    number_read done c.deref.result.now c.args.p c.next_number-number.result c.next_number-number.ensures
    c.deref.ensures.value in
    let before : IsWithNumber c.args.p (get_or done c.args.p 0) own =
    next_before done c.args.p c.next_number-number.result own number c.with_number-previous.ensures in
    let send : IsSendOf run (next_of done c.args.p) sent =
    next_send run c.args.matched.now done c.args.p c.next_number-number.result sent c.requires.table.messages number
    c.sender-send.ensures in
    let room : length c.loop-q.row ≡ length c.args.numbers.now = c.loop-q.invariant.room in
    let greater : (k : ℕ) → k < length run
    → get_or c.loop-q.row k 0 ≡ max (count_of (length run) rows own k) (count_of (length run) rows sent k) =
    λ k below. subst (λ (n : ℕ). get_or c.loop-q.row k 0 ≡ max (count_of n rows own k) (count_of n rows sent k))
    c.requires.table.ordered.one_each
    (c.loop-q.invariant.so_far k (omega (arith, below, many, c.loop-q-test.false))) in
    let mine : c.own_rank.result ≡ count_up_to (slice_index_or numbers c.args.p []) (get_or done c.args.p 0 + 1) =
    c.own_rank.ensures
    ∙ (ap (count_up_to c.deref-2.result.now) number
    ∙ ap (λ (xs : List ℕ). count_up_to xs (get_or done c.args.p 0 + 1))
    (sym (numbers_read c.args.numbers.now c.args.p c.index-numbers-p.result c.deref-2.result.now there
    c.deref-2.ensures.value c.index-numbers-p.is))) in
    next_ranks run numbers done rows c.args.p own sent c.requires.table.numbers_there c.requires.table.ordered
    c.requires.table.ranks c.requires.goes before send c.loop-q.row c.own_rank.result q lt
    (omega (arith, there, room)) greater mine
