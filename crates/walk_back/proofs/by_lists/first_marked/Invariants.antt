-- What the loop of `first_marked` keeps: no cut so far is marked.
use Rattle.std.proofs.Common.{◌≡◌, ℕ, ◌<◌, false, get_or}
use Rattle.walk_back.proofs.by_lists.first_marked.Given as goal

abbrev pub invariant-loop-i : goal.invariant-loop-i
invariant-loop-i l = (j : ℕ) → j < l.i → get_or l.marks j false ≡ false
