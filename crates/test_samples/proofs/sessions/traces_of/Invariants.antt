-- The streams so far have been taken.
use Rattle.std.proofs.Common.{◌≡◌, length}
use Rattle.def_format.specs.Sessions.{Interleaving}
use Rattle.pd_gather.specs.Taken.{HasTaken}
use Rattle.pd_spec.specs.Views.{document_view}
use Rattle.test_samples.proofs.sessions.traces_of.Given as goal

abbrev pub invariant-loop-stream : goal.invariant-loop-stream
invariant-loop-stream l = record {
  many : length l.core ≡ length l.streams;
  taken : (steps : Interleaving) × HasTaken l.core (document_view l.spec).names steps;
}
