-- What the loop of `all_events` keeps.
use Rattle.std.proofs.Common.{◌≡◌, take}
use Rattle.def_model.specs.Cuts.{full_cut}
use Rattle.pd_evidence.proofs.observation.all_events.Given as goal

abbrev pub invariant-loop-p : goal.invariant-loop-p
invariant-loop-p l = l.counts.items ≡ take l.p (full_cut l.computation.events)
