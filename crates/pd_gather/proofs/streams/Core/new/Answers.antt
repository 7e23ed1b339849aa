-- The readers of streams of which nothing has come.
use Rattle.std.proofs.Common.{[], All, arith, subst, sym}
use Rattle.std.proofs.lemmas.List.Elements.{All-push}
use Rattle.std.proofs.lemmas.Option.{get_or_from_slice_get, slice_get_within}
use Rattle.def_format.specs.Readings.{Open}
use Rattle.pd_events.specs.Reads.{ReaderState, Reads}
use Rattle.pd_spec.specs.Views.{document_view}
use Rattle.pd_gather.proofs.streams.Core.new.Goals as goal

pub loop-preserved : goal.loop-preserved
loop-preserved c = record {
  count = omega (arith, c.in_ok-push.ensures.len, c.loop.invariant.count);
  fresh =
      subst (All (λ (reader : ReaderState). Reads reader (document_view c.args.spec.now).names Open []))
      (sym c.in_ok-push.ensures.items)
      (All-push (λ (reader : ReaderState). Reads reader (document_view c.args.spec.now).names Open [])
      c.loop.readers.items c.new.result c.loop.invariant.fresh c.new.ensures);
}

pub returns-clause-none : goal.returns-clause-none
returns-clause-none c = record {
  each = λ i reader at.
      subst (λ (r : ReaderState). Reads r (document_view c.args.spec.now).names Open [])
      (get_or_from_slice_get c.loop.readers.items i reader reader at)
      (c.loop.invariant.fresh i reader (slice_get_within c.loop.readers.items i reader at));
}
