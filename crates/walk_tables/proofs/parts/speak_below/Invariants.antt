-- What the loop over terms keeps: those that are seen speak of the first processes.
use Rattle.std.proofs.Common.{drop}
use Rattle.pd_pred.specs.Trees.{terms_view}
use Rattle.walk_tables.specs.Parts.{SpeakBelow}
use Rattle.walk_tables.proofs.parts.speak_below.Given as goal

abbrev pub invariant-loop-signed : goal.invariant-loop-signed
invariant-loop-signed l =
    SpeakBelow l.processes (terms_view (drop l.signed-index l.terms)) → SpeakBelow l.processes (terms_view l.terms)
