-- All that was found so far was found of its number.
use Rattle.std.proofs.Common.{◌<◌, All}
use Rattle.walk_keys.proofs.found.find_between.Given as goal

abbrev pub invariant-loop-i : goal.invariant-loop-i
invariant-loop-i g l = All (λ f. (f.number < l.count) × g.F.Fn.post l.work (f.number, tt) f.value) l.found.items
