-- The variables so far are below the count.
use Rattle.std.proofs.Common.{All, ◌<◌, take}
use Rattle.judge_reduced.proofs.images.are_below.Given as goal

abbrev pub invariant-loop-var : goal.invariant-loop-var
invariant-loop-var l = All (λ v. v < l.count) (take l.var-index l.vars)
