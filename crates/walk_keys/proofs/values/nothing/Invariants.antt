-- There are as many as were counted, and nothing stands in each.
use Rattle.std.proofs.Common.{◌≡◌, All, None, length}
use Rattle.walk_keys.proofs.values.nothing.Given as goal

abbrev pub invariant-loop : goal.invariant-loop
invariant-loop g l = (length l.values.items ≡ l.counter) × All (λ value. value ≡ None) l.values.items
