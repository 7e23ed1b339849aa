-- No event before this one adds more than 1.
use Rattle.std.proofs.Common.{ℕ, ◌+◌, ◌<◌, pos, ◌+ℤ◌, ◌≤ℤ◌}
use Rattle.wide_slice.specs.Values.{number_at}
use Rattle.wide_sums.proofs.steps.row_rises_by_one.Given as goal

abbrev pub invariant-loop-count : goal.invariant-loop-count
invariant-loop-count l =
    (count : ℕ) → count < l.count → number_at l.row (count + 1) ≤ℤ (number_at l.row count +ℤ pos 1)
