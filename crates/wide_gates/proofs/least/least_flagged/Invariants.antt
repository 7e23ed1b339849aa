-- The least so far.
use Rattle.std.specs.Prelude.{MatchOption}
use Rattle.wide_gates.specs.Least.{IsLeastFlagged, NoneFlagged}
use Rattle.wide_gates.proofs.least.least_flagged.Given as goal

abbrev pub invariant-loop-k : goal.invariant-loop-k
invariant-loop-k l = MatchOption l.least (NoneFlagged l.flags l.k) (IsLeastFlagged l.numbers l.flags l.k)
