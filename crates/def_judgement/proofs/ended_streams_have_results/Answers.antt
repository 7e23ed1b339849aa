-- Streams that have ended have results.
use Rattle.def_judgement.proofs.StreamResults.{ended_have_results}
use Rattle.def_judgement.proofs.ended_streams_have_results.Goals as goal

pub returns : goal.returns
returns c = ended_have_results
