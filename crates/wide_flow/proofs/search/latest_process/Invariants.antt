-- What the loop of `latest_process` keeps.
use Rattle.std.proofs.Common.{ℕ, ◌<◌, ◌≤◌, get_or, length}
use Rattle.std.specs.Prelude.{MatchOption}
use Rattle.wide_flow.proofs.search.latest_process.Given as goal

abbrev pub invariant-loop-process : goal.invariant-loop-process
invariant-loop-process l =
    MatchOption l.best ((p : ℕ) → p < l.process → get_or l.lows p 0 ≤ get_or l.frozen p 0)
    (λ p. (p < length l.rows) × (get_or l.frozen p 0 < get_or l.lows p 0))
