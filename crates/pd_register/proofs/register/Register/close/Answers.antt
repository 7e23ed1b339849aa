-- Each seat may be joined, and once all are, the lock is free and the rows are those of the seats.
use Rattle.std.proofs.Common.{rules, ◌≡◌, ◌∙◌, ℕ, ◌+◌, ◌<◌, List, [], ◌∷◌, ◌++◌, All, length, get_or, ap, sym, subst, arith, append_assoc}
use Rattle.std.proofs.lemmas.List.{length-map}
use Rattle.std.proofs.lemmas.List.Elements.{All-cons}
use mathlib.Core.Option.{some-injective}
use Rattle.def_format.specs.Histories.{fresh_row, rows_of}
use Rattle.pd_register.specs.declared.seat.Seat.{Seat}
use Rattle.pd_register.specs.declared.history.History.{History}
use Rattle.pd_register.specs.declared.row.Row.{Row}
use Rattle.pd_register.specs.Views.{history_view, row_value, row_view, rows_view, row_in}
use Rattle.pd_register.specs.LockRule.{stands}
use Rattle.pd_register.specs.Seats.{IsSeatOf, stream_count, stream_of, posted_row}
use Rattle.pd_register.proofs.ListFacts.{all_popped, nothing_before, order_at}
use Rattle.pd_register.proofs.RuleSteps.{joins, settles}
use Rattle.pd_register.proofs.SeatFacts.{At, at_more, at_new, at_some, at_fits, rows_closed, stands_each}
use Rattle.pd_register.proofs.register.Register.close.Goals as goal

pub join_seat-requires : goal.join_seat-requires
join_seat-requires c =
    let self = c.args.self in
    let all = c.loop-seat.all in
    let seat = c.in-Some.seat in
    let inv = c.loop-seat.invariant in
    let own = subst (All (IsSeatOf self)) c.in-Some.ensures.items inv.own in
    let here = all_popped (IsSeatOf self) c.pop.new.self.items seat own in
    let some_rows = at_some all.me.0.rows (stream_count self, row_value fresh_row) inv.first in (
      inv.whole.0,
      here.1.0,
      seat.own.2,
      omega (arith, self.sized),
      joins self.table.shared.key all.id all.me.0 seat.inner.id seat.inner.me.0 inv.whole.2 seat.own.1 some_rows,
    )

pub loop-seat-preserved : goal.loop-seat-preserved
loop-seat-preserved c =
    let self = c.args.self in
    let all = c.loop-seat.all in
    let seat = c.in-Some.seat in
    let inv = c.loop-seat.invariant in
    let t = c.join_seat.ensures in
    let rest = c.pop.new.self.items in
    let own = subst (All (IsSeatOf self)) c.in-Some.ensures.items inv.own in
    let here = all_popped (IsSeatOf self) rest seat own in
    let popped = inv.collected.0 in
    let old : List (ℕ × Row) = all.me.0.rows in
    let more : List (ℕ × Row) = (seat.stream, seat.row) ∷ [] in
    let rows : old ++ more ≡ c.join_seat.new.seat.me.0.rows =
    ap (λ (l : List (ℕ × Row)). old ++ l) (sym seat.own.0) ∙ sym (ap (λ m. m.0.rows) t.2) in
    let later : All (λ (s : Seat). At (old ++ more) (s.stream, s.row)) (seat ∷ popped) =
    All-cons (λ (s : Seat). At (old ++ more) (s.stream, s.row)) seat popped (at_new old (seat.stream, seat.row))
    (λ k d lt.
    let s : Seat = get_or popped k d in
    at_more old more (s.stream, s.row) (inv.collected.2 k d lt)) in record {
      whole = (t.0 ∙ inv.whole.0, ap (λ m. m.1) t.2 ∙ inv.whole.1, ap (λ m. m.0.holds) t.2);
      own = here.0;
      first = subst (λ l. At l (stream_count self, row_value fresh_row)) rows
          (at_more old more (stream_count self, row_value fresh_row) inv.first);
      collected = (
        seat ∷ popped,
        inv.collected.1 ∙ (ap (λ (l : List Seat). l ++ popped) c.in-Some.ensures.items
            ∙ append_assoc rest (seat ∷ []) popped),
        subst (λ l. All (λ (s : Seat). At l (s.stream, s.row)) (seat ∷ popped)) rows later,
      );
    }

pub returns-clause-rows : goal.returns-clause-rows
returns-clause-rows c =
    let self = c.args.self in
    let n : ℕ = self.table.shared.key in
    let all = c.loop-seat.all in
    let inv = c.loop-seat.invariant in
    let seats = c.args.seats.items in
    let left : length c.loop-seat.seats.items ≡ 0 = search rules in
    let whole : seats ≡ inv.collected.0 =
    inv.collected.1 ∙ nothing_before c.loop-seat.seats.items inv.collected.0 left in
    let there : All (λ (s : Seat). At all.me.0.rows (s.stream, s.row)) seats =
    subst (All (λ (s : Seat). At all.me.0.rows (s.stream, s.row))) (sym whole) inv.collected.2 in
    let are = c.requires.seats in
    let order : (k : ℕ) (d : Seat) → k < length seats → (get_or seats k d).stream ≡ 0 + k =
    order_at stream_of 0 seats are.1 in
    let end = c.close_with-closed.ensures.values.2 in
    let stands_all : (x : ℕ) → x < n + 1 → 0 < stands x all.me.0 =
    stands_each n all.me.0.rows seats (row_value fresh_row) inv.first are.0 (λ k d lt. order k d lt ∙ omega arith)
    there in
    let t = settles n all.id all.me.0 end.0 end.1 inv.whole.2 stands_all in
    let stored : History = t.0 in
    let found = some-injective c.take-rows.result stored in
    let same : c.take-rows.result ≡ stored = found (sym c.take-rows.ensures.value ∙ end.4 0 stored t.1) in
    let h = stored.posts.items in
    let fits : All (λ (s : Seat). row_in s.stream h ≡ s.row) seats =
    λ k e lt. at_fits h all.me.0.rows ((get_or seats k e).stream, (get_or seats k e).row) (there k e lt) t.3.0 in
    ap (λ (s : History). rows_view s.rows.items) same ∙ (stored.shown ∙ (ap (λ (k : ℕ). rows_of k (history_view h)) t.2
    ∙ rows_closed 0 n h seats are.0 order fits))

pub returns-clause-count : goal.returns-clause-count
returns-clause-count c =
    let seats = c.args.seats.items in
    sym (length-map c.take-rows.result.rows.items row_view) ∙ (ap length (returns-clause-rows c)
    ∙ (length-map seats posted_row ∙ c.requires.seats.0))
