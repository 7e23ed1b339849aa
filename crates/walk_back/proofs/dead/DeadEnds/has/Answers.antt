-- The key that is found is that of the cut.
use Rattle.std.proofs.Common.{◌≡◌, ℕ, List, get_or, length, map, sym, ap, ◌∙◌, subst, arith}
use Rattle.std.proofs.lemmas.List.{get_or-map, length-map}
use Rattle.walk_back.proofs.dead.DeadEnds.has.Goals as goal
