-- Each stream is taken in turn, so what they give fits the document.
use Rattle.std.proofs.Common.{[]}
use Rattle.def_format.specs.Limits.{event_limit}
use Rattle.pd_spec.specs.Views.{document_view}
use Rattle.test_samples.proofs.sessions.traces_of.Goals as goal

pub loop-stream-init : goal.loop-stream-init
loop-stream-init c = record {
  many = c.in_ok-core.ensures.streams;
  taken = ([], c.in_ok-core.ensures.none);
}

pub returns-in-Ok : goal.returns-in-Ok
returns-in-Ok c =
    c.in-Ok.ensures.fits event_limit
    (c.outcome.ensures.fit (document_view c.args.spec.now).names c.loop-stream.invariant.taken.0
    c.loop-stream.invariant.taken.1)
