-- What the loops of `next_row` keep.
use Rattle.std.proofs.Common.{◌≡◌, ℕ, ◌<◌, length, max, get_or}
use Rattle.std.specs.Prelude.{option_map}
use Rattle.def_format.specs.Limits.{process_limit}
use Rattle.pd_match.specs.Views.{place_view}
use Rattle.pd_clock.specs.Orders.{count_of}
use Rattle.pd_clock.proofs.order.next_row.Given as goal

abbrev pub invariant-loop-q : goal.invariant-loop-q
invariant-loop-q l = record {
  room : length l.row ≡ process_limit;
  so_far : (k : ℕ) → k < l.q → get_or l.row k 0
      ≡ max (count_of (length l.order.done.items) l.order.clocks.items (option_map place_view l.previous) k)
      (count_of (length l.order.done.items) l.order.clocks.items (option_map place_view l.send) k);
}
