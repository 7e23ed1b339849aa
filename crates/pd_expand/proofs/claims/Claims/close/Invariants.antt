use Rattle.std.proofs.Common.{◌≡◌, ℕ, ◌+◌, ◌<◌, [], All, length}
use Rattle.pd_expand.specs.ClaimRule.{times, past}
use Rattle.pd_expand.specs.Claims.{IsSeatOf, times_in_all, block_count, worker_count}
use Rattle.pd_expand.proofs.claims.Claims.close.Given as goal

abbrev pub invariant-loop-next : goal.invariant-loop-next
invariant-loop-next l = record {
  whole : (l.all.table_id ≡ l.self.table.shared.table_id) × (l.all.me.1 ≡ []);
  own : All (λ s. IsSeatOf l.self s) l.seats.items;
  workers : l.all.me.0.workers + length l.seats.items ≡ worker_count l.self;
  drawn : (x : ℕ) → times x l.all.me.0.drawn + times_in_all x l.seats.items ≡ times_in_all x l.fn.seats.items;
  done : 0 < past (block_count l.self) l.all.me.0.drawn;
}

abbrev pub decreases-loop-next : goal.decreases-loop-next
decreases-loop-next l = length l.seats.items
