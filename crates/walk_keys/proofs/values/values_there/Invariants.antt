-- There is a value for each number so far, and it is the number's; what stands in the places was found of theirs.
use Rattle.std.proofs.Common.{◌≡◌, ◌<◌, ℕ, IfSome, None, length, slice_index_or}
use Rattle.walk_keys.proofs.values.values_there.Given as goal

abbrev pub invariant-loop-i : goal.invariant-loop-i
invariant-loop-i g l =
    (length l.all.items ≡ l.i)
    × (length l.values ≡ length l.initial.values)
    × ((k : ℕ) (d : g.row.X.Denot) → k < l.i → g.F.Fn.post l.work (k, tt) (slice_index_or l.all.items k d))
    × ((k : ℕ) → IfSome (slice_index_or l.values k None) (λ x. g.F.Fn.post l.work (k, tt) x))
