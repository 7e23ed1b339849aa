-- What the loops of `first_absent` keep.
use Rattle.std.proofs.Common.{◌≡◌, List, drop}
use Rattle.def_format.specs.Readings.{Trace}
use Rattle.def_format.specs.Sessions.{traces_from}
use Rattle.pd_gather.specs.Views.{results_view}
use Rattle.pd_gather.proofs.Places.{following}
use Rattle.pd_gather.proofs.traces.first_absent.Given as goal

-- the processes so far have traces
abbrev pub invariant-loop-p : goal.invariant-loop-p
invariant-loop-p l = (prefix : List Trace) × (traces_from 0 l.names (results_view l.readings)
    ≡ following prefix (traces_from l.p (drop l.p l.names) (results_view l.readings)))
