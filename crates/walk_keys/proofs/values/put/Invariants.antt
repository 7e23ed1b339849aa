-- What stands in a place was found of its number, and so was what is left.
use Rattle.std.proofs.Common.{◌≡◌, ◌<◌, ℕ, All, IfSome, None, length, slice_index_or}
use Rattle.walk_keys.proofs.values.put.Given as goal

abbrev pub invariant-loop-next : goal.invariant-loop-next
invariant-loop-next g l =
    (length l.values ≡ length l.initial.values)
    × All (λ f. (f.number < length l.initial.values) × g.F.Fn.post l._work (f.number, tt) f.value) l.found.items
    × ((i : ℕ) → IfSome (slice_index_or l.values i None) (λ x. g.F.Fn.post l._work (i, tt) x))

abbrev pub decreases-loop-next : goal.decreases-loop-next
decreases-loop-next g l = length l.found.items
