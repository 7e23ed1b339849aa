-- The lowest of the cuts at which one of the terms so far holds.
use Rattle.wide_sums.specs.FirstCuts.{IsLowestIfAny, SatisfiesSome}
use Rattle.wide_sums.specs.Literals.{terms_at}
use Rattle.wide_terms.specs.Rows.{numbers_view}
use Rattle.wide_sums.proofs.first.first_by_sums.Given as goal

abbrev pub invariant-loop-i : goal.invariant-loop-i
invariant-loop-i l =
    IsLowestIfAny
    (SatisfiesSome l.computation (terms_at l.prepared.terms.literals.items (numbers_view l.prepared.terms.terms.items))
    l.i) l.first
