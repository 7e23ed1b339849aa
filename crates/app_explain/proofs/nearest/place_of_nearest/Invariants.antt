-- The nearest of the names so far is known.
use Rattle.std.proofs.Common.{map}
use Rattle.app_explain.proofs.NearestSteps.{AreLookedAt}
use Rattle.app_explain.proofs.nearest.place_of_nearest.Given as goal

abbrev pub invariant-loop-place : goal.invariant-loop-place
invariant-loop-place l = AreLookedAt l.given (map (λ name. name.now) l.names) l.place l.least l.found
