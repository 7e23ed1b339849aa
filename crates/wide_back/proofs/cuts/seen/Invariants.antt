-- What the loop of `seen` keeps.
use Rattle.std.proofs.Common.{◌≡◌, ◌<◌, ◌≤◌, ℕ, cond, get_or, length}
use Rattle.def_format.specs.Limits.{process_limit}
use Rattle.def_wide.specs.DeadEnds.{predicate_names}
use Rattle.wide_back.specs.Goals.{predicate_of}
use Rattle.wide_back.proofs.cuts.seen.Given as goal

abbrev pub invariant-loop-p : goal.invariant-loop-p
invariant-loop-p l = record {
  many : length l.counts ≡ process_limit;
  so_far : (q : ℕ) → q < l.p
      → get_or l.counts q 0 ≡ cond (predicate_names q (predicate_of l.search)) (get_or l.cut q 0) 0;
  rest : (q : ℕ) → l.p ≤ q → get_or l.counts q 0 ≡ 0;
}
