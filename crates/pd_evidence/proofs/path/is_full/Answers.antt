-- Counts that differ nowhere from the numbers of events are those of all events.
use Rattle.std.proofs.Common.{refl, arith}
use Rattle.def_model.proofs.AvoidingPaths.{full_from_counts}
use Rattle.pd_evidence.proofs.path.is_full.Goals as goal

pub returns : goal.returns
returns c = (
  λ h. full_from_counts c.args.computation.now.events c.args.counts.now c.requires (λ k lt.
      c.loop-p.invariant k (omega arith)),
  λ h. refl,
)
