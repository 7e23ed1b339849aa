use Rattle.std.proofs.Common.{◌≡◌, ◌+◌, ◌-◌, [], All, length}
use Rattle.pd_expand.specs.ClaimRule.{view}
use Rattle.pd_expand.specs.Claims.{drawn}
use Rattle.pd_expand.proofs.claims.Claims.new.Given as goal

abbrev pub invariant-loop : goal.invariant-loop
invariant-loop l = record {
  dealer : (l.dealer.table_id ≡ l.table.shared.table_id) × (l.dealer.me ≡ (view (l.workers + 1 - l.counter) [], []));
  count : length l.seats.items + 1 ≡ l.counter;
  seats : All (λ s. (s.inner.table_id ≡ l.table.shared.table_id) × (s.blocks ≡ l.blocks) × (drawn s ≡ []))
      l.seats.items;
}
