-- What the loops of `next_level` keep.
use Rattle.std.proofs.Common.{ℕ, length, ◌-◌}
use Rattle.walk_runs.specs.Kept.{births_view, cuts_of}
use Rattle.walk_runs.proofs.Merging.{IsGoing, IsMerging, bar_of}
use Rattle.walk_runs.proofs.whole.next_level.Given as goal

abbrev pub invariant-loop-j : goal.invariant-loop-j
invariant-loop-j g l =
    IsMerging l.steps l.number l.olds (cuts_of (births_view g.K.Key.number l.births)) l.i l.j l.runs.items l.born
    (bar_of g.K.Key.number l.last)

abbrev pub invariant-loop-runs : goal.invariant-loop-runs
invariant-loop-runs g l =
    IsMerging l.steps l.number l.olds (cuts_of (births_view g.K.Key.number l.births)) l.i l.j l.runs.items l.born
    (bar_of g.K.Key.number l.last)

abbrev pub decreases-loop-runs : goal.decreases-loop-runs
decreases-loop-runs g l = length l.olds - l.i

abbrev pub invariant-loop-i : goal.invariant-loop-i
invariant-loop-i g l =
    (floor : ℕ) × IsGoing l.steps l.number l.olds (cuts_of (births_view g.K.Key.number l.births)) l.i
    (length l.births) l.runs.items l.born floor

abbrev pub decreases-loop-i : goal.decreases-loop-i
decreases-loop-i g l = length l.olds - l.i
