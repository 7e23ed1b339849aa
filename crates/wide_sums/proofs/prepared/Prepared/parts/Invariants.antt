-- What is put so far makes the parts of the term with those of what is left of it.
use Rattle.std.proofs.Common.{ℕ, List, ◌++◌, drop, map}
use Rattle.def_wide.specs.Terms.{Literal}
use Rattle.wide_sums.specs.Literals.{literal_view, term_at}
use Rattle.wide_sums.specs.Splits.{AreLocals, AreSums}
use Rattle.wide_sums.proofs.prepared.Prepared.parts.Given as goal

abbrev pub invariant-loop-i : goal.invariant-loop-i
invariant-loop-i l = record {
  sums : (more : List Literal) → AreSums (term_at l.self.terms.literals.items (drop l.i-index l.term)) more
      → AreSums (term_at l.self.terms.literals.items l.term) (map literal_view l.sums.items ++ more);
  locals : (more : List ℕ)
      → AreLocals l.computation l.self.rows.rows.items
      (term_at l.self.terms.literals.items (drop l.i-index l.term)) more
      → AreLocals l.computation l.self.rows.rows.items (term_at l.self.terms.literals.items l.term)
      (l.numbers.items ++ more);
}
