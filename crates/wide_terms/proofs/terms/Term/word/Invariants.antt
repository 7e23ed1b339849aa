-- The counts of the word that are good for the comparisons that are seen.
use Rattle.std.proofs.Common.{◌≡◌, ◌+◌, ◌*◌, ◌<◌, ℕ, drop}
use Rattle.std.specs.Prelude.{◌&&◌}
use Rattle.walk_keys.specs.Words.{has_bit}
use Rattle.wide_terms.specs.Rows.{term_allows}
use Rattle.wide_terms.proofs.terms.Term.word.Given as goal

abbrev pub invariant-loop-i : goal.invariant-loop-i
invariant-loop-i l =
    (j : ℕ) → j < 64
    → (has_bit l.word j
    && term_allows l.self.rows.now (drop l.i-index l.self.numbers.now) l.process (l.number * 64 + j))
    ≡ term_allows l.self.rows.now l.self.numbers.now l.process (l.number * 64 + j)
