-- What the loop of `push_pairs` keeps.
use Rattle.std.proofs.Common.{◌≡◌, ◌++◌, drop}
use Rattle.pd_match.specs.Noted.{pairs_from}
use Rattle.pd_match.specs.Views.{pairs_view}
use Rattle.pd_match.proofs.matched.push_pairs.Given as goal

-- the messages so far, and then those of the rest of the row
abbrev pub invariant-loop-n : goal.invariant-loop-n
invariant-loop-n l =
    pairs_view l.pairs.items ++ pairs_from l.p l.n (drop l.n l.row)
    ≡ pairs_view l.initial.pairs.items ++ pairs_from l.p 0 l.row
