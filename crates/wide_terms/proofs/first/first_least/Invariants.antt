-- The first of the least cuts of the terms so far.
use Rattle.wide_terms.specs.FirstCuts.{IsFirstSoFar, goods_of}
use Rattle.wide_terms.specs.Rows.{numbers_view}
use Rattle.wide_terms.proofs.first.first_least.Given as goal

abbrev pub invariant-loop-i : goal.invariant-loop-i
invariant-loop-i l = IsFirstSoFar l.computation.events (goods_of l.terms.rows.items (numbers_view l.terms.terms.items))
    l.i l.first
