-- What stands in a place was found of its number, and so was what the other threads found.
use Rattle.std.proofs.Common.{◌≡◌, ◌<◌, ℕ, All, IfOk, IfSome, None, length, slice_index_or}
use Rattle.walk_keys.proofs.values.put_all.Given as goal

abbrev pub invariant-loop-part : goal.invariant-loop-part
invariant-loop-part g l =
    (length l.values ≡ length l.initial.values)
    × All (λ part. IfOk part (λ found. All (λ f. (f.number < length l.initial.values)
    × g.F.Fn.post l.work (f.number, tt) f.value) found.items)) l.parts.items
    × ((i : ℕ) → IfSome (slice_index_or l.values i None) (λ x. g.F.Fn.post l.work (i, tt) x))

abbrev pub decreases-loop-part : goal.decreases-loop-part
decreases-loop-part g l = length l.parts.items
