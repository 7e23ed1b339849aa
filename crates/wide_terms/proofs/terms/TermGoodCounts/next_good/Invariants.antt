-- No count that was passed is good.
use Rattle.std.proofs.Common.{◌≡◌, ◌+◌, ◌-◌, ◌<◌, ◌≤◌, ℕ, false}
use Rattle.wide_terms.specs.Rows.{term_allows}
use Rattle.wide_terms.proofs.terms.TermGoodCounts.next_good.Given as goal

abbrev pub invariant-loop-at : goal.invariant-loop-at
invariant-loop-at l = record {
  order : l.from ≤ l.at;
  passed : (m : ℕ) → l.from ≤ m → m < l.at → term_allows l.self.rows.now l.self.numbers.now l.process m ≡ false;
}

abbrev pub decreases-loop-at : goal.decreases-loop-at
decreases-loop-at l = l.last + 1 - l.at
