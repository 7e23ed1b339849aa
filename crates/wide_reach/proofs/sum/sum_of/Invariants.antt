-- What the loop of `sum_of` keeps.
use Rattle.std.proofs.Common.{◌≡◌, ◌≤◌, ◌*◌, ◌+ℤ◌, drop}
use Rattle.std.specs.Prelude.{unsigned_abs}
use Rattle.wide_slice.specs.Values.{sum_at, value_limit}
use Rattle.wide_reach.proofs.sum.sum_of.Given as goal

abbrev pub invariant-loop-p : goal.invariant-loop-p
invariant-loop-p l = record {
  rest : l.sum +ℤ sum_at (drop l.p l.values) (drop l.p l.counts) ≡ sum_at l.values l.counts;
  small : unsigned_abs l.sum ≤ l.p * value_limit;
}
