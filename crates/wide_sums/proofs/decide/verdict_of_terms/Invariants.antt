-- What the terms so far come to.
use Rattle.wide_sums.specs.Literals.{terms_at}
use Rattle.wide_sums.specs.TermVerdicts.{HaveVerdict}
use Rattle.wide_terms.specs.Rows.{numbers_view}
use Rattle.wide_sums.proofs.decide.verdict_of_terms.Given as goal

abbrev pub invariant-loop-i : goal.invariant-loop-i
invariant-loop-i l =
    HaveVerdict l.computation (terms_at l.prepared.terms.literals.items (numbers_view l.prepared.terms.terms.items))
    l.i l.satisfied
