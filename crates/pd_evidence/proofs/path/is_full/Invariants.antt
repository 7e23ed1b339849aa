-- What the loops of `is_full` keep.
use Rattle.std.proofs.Common.{◌≡◌, ℕ, ◌<◌, get_or}
use Rattle.def_model.specs.Events.{event_count}
use Rattle.pd_evidence.proofs.path.is_full.Given as goal

abbrev pub invariant-loop-p : goal.invariant-loop-p
invariant-loop-p l = (k : ℕ) → k < l.p → get_or l.counts k 0 ≡ event_count l.computation.events k
