-- The streams so far have their seats, and the dealer stands for the rest.
use Rattle.std.proofs.Common.{◌≡◌, ℕ, ◌+◌, ◌-◌, ◌<◌, [], false, All, length, slice_index_or}
use Rattle.pd_register.specs.LockRule.{view, fresh_from}
use Rattle.pd_register.specs.Seats.{IsFresh}
use Rattle.pd_register.specs.declared.seat.Seat.{Seat}
use Rattle.pd_register.proofs.register.Register.new.Given as goal

abbrev pub invariant-loop-stream : goal.invariant-loop-stream
invariant-loop-stream l = record {
  dealer : (l.dealer.table_id ≡ l.table.shared.table_id)
      × (l.dealer.me ≡ (view l.fn.streams (fresh_from l.stream (l.fn.streams + 1 - l.stream)) [] false, []));
  count : length l.seats.items ≡ l.stream;
  order : (k : ℕ) (d : Seat) → k < length l.seats.items → (slice_index_or l.seats.items k d).stream ≡ 0 + k;
  own : All (λ s. (s.inner.table_id ≡ l.table.shared.table_id) × (s.inner.me.0.streams ≡ l.fn.streams)) l.seats.items;
  fresh : All IsFresh l.seats.items;
}
