-- What the loop of `no_numbers` keeps.
use Rattle.std.proofs.Common.{◌≡◌, ℕ, length, get_or, None}
use Rattle.pd_events.proofs.plain.no_numbers.Given as goal

abbrev pub invariant-loop-v : goal.invariant-loop-v
invariant-loop-v l = record { len : length l.row.items ≡ l._v; none : (v : ℕ) → get_or l.row.items v None ≡ None }
