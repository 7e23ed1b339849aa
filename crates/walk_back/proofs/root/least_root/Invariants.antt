-- What the loop of `least_root` keeps.
use Rattle.std.proofs.Common.{◌*◌, ◌<◌, ℕ}
use Rattle.walk_back.proofs.root.least_root.Given as goal

abbrev pub invariant-loop-root : goal.invariant-loop-root
invariant-loop-root l = (r : ℕ) → r < l.root → r * r < l.n
