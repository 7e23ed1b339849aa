-- The rows of the kept events are taken out of those of all events.
use Rattle.std.proofs.Common.{◌≡◌, ◌<◌, ◌≤◌, List, ℕ, [], All, length, sym, ap, ◌∙◌, subst, arith}
use Rattle.std.specs.Prelude.{Vec, flat_map, slice_index_or}
use Rattle.std.specs.Global.{Global}
use Rattle.std.proofs.lemmas.List.{length-map}
use Rattle.def_format.specs.Limits.{event_limit}
use Rattle.def_model.specs.Events.{IsEvent, place}
use Rattle.pd_clock.proofs.PastFacts.{all_done}
use Rattle.read_traces.specs.Views.{computation_view}
use Rattle.read_traces.specs.declared.event.Trace.{Trace}
use Rattle.judge_orders.specs.KeptEvents.{AllAscend}
use Rattle.judge_orders.specs.Lists.{lists_view}
use Rattle.judge_orders.specs.RankTables.{AreEventNumbers, HasRowsAt, row_at, rows_of}
use Rattle.judge_orders.proofs.KeptRanks.{are_known, rows_seen, rows_there}
use Rattle.judge_orders.proofs.Places.{lists_length}
use Rattle.judge_orders.proofs.known_rows.known_rows.Goals as goal

-- as many lists of numbers as processes
counted : (traces : List Trace) (numbers : List (Vec ℕ Global)) → length numbers ≡ length traces
    → length (lists_view numbers) ≡ length (computation_view traces)
counted traces numbers same =
    omega (arith, lists_length numbers, same, length-map traces (λ (process : Trace). process.events))

are_numbers : (traces : List Trace) (numbers : List (Vec ℕ Global))
    → length (lists_view numbers) ≡ length (computation_view traces) → AllAscend (lists_view numbers)
    → ((p : ℕ) → p < length numbers → All (λ (n : ℕ). IsEvent (computation_view traces) (place p n))
    (slice_index_or (lists_view numbers) p []))
    → ((p : ℕ) → length (slice_index_or (lists_view numbers) p []) ≤ event_limit)
    → AreEventNumbers (computation_view traces) (lists_view numbers)
are_numbers traces numbers many ascend there few = record {
  one_each = many;
  ascend = ascend;
  there = λ p lt. there p (omega (arith, lt, lists_length numbers));
  few = few;
}

-- the rows of a process, as they were read
read_rows : (rows read : List (Vec ℕ Global)) (p : ℕ) → read ≡ rows
    → slice_index_or (lists_view read) p [] ≡ rows_of rows p
read_rows rows read p same =
    ap (λ (all : List (Vec ℕ Global)). slice_index_or (lists_view all) p []) same ∙ rows_seen rows p

pub all_rows_of-requires-clause-there : goal.all_rows_of-requires-clause-there
all_rows_of-requires-clause-there c = λ p lt.
    let run = computation_view c.args.traces.now in
    let numbers = lists_view c.args.numbers.now in
    let done = c.in_ok-table.table.done.items in
    let rows = c.in_ok-table.table.rows.items in
    let many : length numbers ≡ length run = counted c.args.traces.now c.args.numbers.now c.requires.one_each in
    let given : AreEventNumbers run numbers =
    are_numbers c.args.traces.now c.args.numbers.now many c.requires.ascend c.requires.there c.requires.few in
    let width : length run ≡ length c.args.numbers.now = omega (arith, many, lists_length c.args.numbers.now) in
    subst (λ (n : ℕ). HasRowsAt n (slice_index_or (lists_view c.deref-2.result.now) p []) (slice_index_or numbers p []))
    width
    (subst (λ (xs : List ℕ). HasRowsAt (length run) xs (slice_index_or numbers p []))
    (sym (read_rows rows c.deref-2.result.now p c.deref-2.ensures.value))
    (rows_there run numbers done rows given c.in_ok-table.ensures.ranks
    (all_done run done c.in_ok-refuse_cycle.ensures.acyclic c.in_ok-table.ensures.stuck) p
    (omega (arith, lt, width))))

pub returns-clause-rows : goal.returns-clause-rows
returns-clause-rows c =
    let run = computation_view c.args.traces.now in
    let numbers = lists_view c.args.numbers.now in
    let done = c.in_ok-table.table.done.items in
    let rows = c.in_ok-table.table.rows.items in
    let many : length numbers ≡ length run = counted c.args.traces.now c.args.numbers.now c.requires.one_each in
    let given : AreEventNumbers run numbers =
    are_numbers c.args.traces.now c.args.numbers.now many c.requires.ascend c.requires.there c.requires.few in
    let width : length c.args.numbers.now ≡ length run = omega (arith, many, lists_length c.args.numbers.now) in (
      c.in_ok-known.ensures.one_each ∙ c.requires.one_each,
      λ initial p lt.
          are_known run numbers done rows given c.in_ok-table.ensures.ranks
          (all_done run done c.in_ok-refuse_cycle.ensures.acyclic c.in_ok-table.ensures.stuck) initial p
          (slice_index_or (lists_view c.in_ok-known.known.items) p []) (omega (arith, lt, c.requires.one_each, width))
          (c.in_ok-known.ensures.rows p (omega (arith, lt, c.requires.one_each))
          ∙ (ap (λ (n : ℕ). flat_map (row_at n (slice_index_or (lists_view c.deref-2.result.now) p []))
          (slice_index_or numbers p [])) width
          ∙ ap (λ (xs : List ℕ). flat_map (row_at (length run) xs) (slice_index_or numbers p []))
          (read_rows rows c.deref-2.result.now p c.deref-2.ensures.value))),
    )
