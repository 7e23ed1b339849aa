-- What the loops of `first_fault` keep.
use Rattle.std.proofs.Common.{◌≡◌, []}
use Rattle.def_format.specs.Sessions.{first_stream_fault}
use Rattle.pd_gather.specs.Views.{results_view}
use Rattle.pd_gather.proofs.Places.{faults_from}
use Rattle.pd_gather.proofs.traces.first_fault.Given as goal

abbrev pub invariant-loop-i : goal.invariant-loop-i
invariant-loop-i l = first_stream_fault [] (results_view l.readings) ≡ faults_from l.readings l.i
