-- What the loop of `end_of` keeps.
use Rattle.wide_pairs.specs.Rows.{AreUpTo}
use Rattle.wide_pairs.proofs.band.end_of.Given as goal

abbrev pub invariant-loop-j : goal.invariant-loop-j
invariant-loop-j l = AreUpTo l.numbers l.i l.j
