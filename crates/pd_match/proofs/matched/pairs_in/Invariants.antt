-- What the loop of `pairs_in` keeps.
use Rattle.std.proofs.Common.{◌≡◌, ◌++◌, drop}
use Rattle.pd_match.specs.Noted.{pairs_in}
use Rattle.pd_match.specs.Views.{pairs_view}
use Rattle.pd_match.proofs.matched.pairs_in.Given as goal

-- the messages so far, and then those of the rest of the rows
abbrev pub invariant-loop-p : goal.invariant-loop-p
invariant-loop-p l = pairs_view l.pairs.items ++ pairs_in l.p (drop l.p l.rows) ≡ pairs_in 0 l.rows
