-- One more stream is read after each turn.
use Rattle.std.proofs.Common.{List, ℕ, arith, subst}
use Rattle.std.proofs.lemmas.List.Elements.{All-push}
use Rattle.def_judgement.specs.Judgements.{IsResultOf, ended_stream}
use Rattle.pd_events.specs.Views.{result_view}
use Rattle.pd_gather.specs.Views.{ReadingFits}
use Rattle.pd_spec.specs.Views.{document_view}
use Rattle.app_batch.proofs.TextResults.{texts_on}
use Rattle.app_batch.proofs.texts.read_texts.Goals as goal

pub loop-stream-preserved : goal.loop-stream-preserved
loop-stream-preserved c =
    let names = (document_view c.args.spec.now).names in
    let reading = c.in_ok-read_text.field-0 in
    rw c.in_ok-push.ensures.items (record {
      results = texts_on names c.args.streams.now c.loop-stream.stream-index c.stream-item.result
          c.loop-stream.readings.items reading (omega arith) c.stream-item.is c.loop-stream.invariant.results
          (subst (λ (bytes : List ℕ). IsResultOf names (ended_stream bytes) (result_view reading))
          c.as_bytes.ensures.value c.in_ok-read_text.ensures.result);
      fit = All-push (ReadingFits names) c.loop-stream.readings.items reading c.loop-stream.invariant.fit
          c.in_ok-read_text.ensures.fits;
    })
