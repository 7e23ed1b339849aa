-- What the loop keeps: the results of the streams so far.
use Rattle.std.proofs.Common.{map, take, string_bytes}
use Rattle.std.specs.Prelude.{All}
use Rattle.def_judgement.specs.Judgements.{AreResultsOf, ended_streams}
use Rattle.pd_gather.specs.Views.{ReadingFits, results_view}
use Rattle.pd_spec.specs.Views.{document_view}
use Rattle.app_batch.proofs.texts.read_texts.Given as goal

abbrev pub invariant-loop-stream : goal.invariant-loop-stream
invariant-loop-stream l = record {
  results : AreResultsOf (document_view l.spec).names
      (ended_streams (map string_bytes (take l.stream-index l.streams))) (results_view l.readings.items);
  fit : All (ReadingFits (document_view l.spec).names) l.readings.items;
}
