-- The reader's outcome is the stream's.
use Rattle.std.proofs.Common.{[]}
use Rattle.pd_spec.specs.Views.{document_view}
use Rattle.app_batch.proofs.TextResults.{fits_text, result_of_text}
use Rattle.app_batch.proofs.texts.read_text.Goals as goal

pub returns-clause-result : goal.returns-clause-result
returns-clause-result c =
    let names = (document_view c.args.spec.now).names in
    result_of_text names c.args.bytes.now c.end.new.self c.outcome.result c.outcome.ensures.value
    (c.in_ok-end.ensures.reads names c.args.bytes.now (c.in_ok-feed.ensures.reads names [] c.new-reader.ensures))

pub returns-clause-fits : goal.returns-clause-fits
returns-clause-fits c =
    let names = (document_view c.args.spec.now).names in
    fits_text names c.args.bytes.now c.end.new.self c.outcome.result c.outcome.ensures.fits
    (c.in_ok-end.ensures.reads names c.args.bytes.now (c.in_ok-feed.ensures.reads names [] c.new-reader.ensures))
