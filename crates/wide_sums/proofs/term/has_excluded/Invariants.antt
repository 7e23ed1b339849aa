-- None of the comparisons so far is excluded.
use Rattle.std.proofs.Common.{ℕ, ◌<◌, map, get_or}
use Rattle.wide_slice.specs.Steps.{IsInside}
use Rattle.wide_sums.specs.Literals.{literal_view, no_literal}
use Rattle.wide_sums.specs.Verdicts.{IsNotExcludedAs}
use Rattle.wide_sums.proofs.term.has_excluded.Given as goal

abbrev pub invariant-loop-i : goal.invariant-loop-i
invariant-loop-i g l =
    (k : ℕ) → k < l.i
    → IsNotExcludedAs (get_or (map literal_view l.sums) k no_literal).comparison
    (IsInside l.at.computation.now.events (g.G.GoodCounts.good l.at.wanted.now)) l.at.computation.now
    (get_or (map literal_view l.sums) k no_literal)
