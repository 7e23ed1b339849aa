-- The variables so far are worth what the values say.
use Rattle.std.proofs.Common.{◌≡◌, ◌+◌, ◌<◌, ℕ, get_or, pos}
use Rattle.judge_orders.proofs.process_kept.is_seen_so.Given as goal

abbrev pub invariant-loop-i : goal.invariant-loop-i
invariant-loop-i l =
    (k : ℕ) → k < l.i → get_or l.values (l.last + k) (pos 0) ≡ get_or l.row (get_or l.vars k 0) (pos 0)
