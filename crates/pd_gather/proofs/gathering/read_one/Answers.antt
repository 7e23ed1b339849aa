-- One stream alone.
use Rattle.std.proofs.Common.{◌∷◌, [], inl, inr, sym, subst, List}
use Rattle.std.specs.Prelude.{Result}
use Rattle.pd_events.specs.Views.{result_view}
use Rattle.read_traces.specs.declared.event.Trace.{Trace}
use Rattle.pd_events.specs.declared.fault.StreamFault.{StreamFault}
use Rattle.pd_register.specs.Seats.{posted_row}
use Rattle.pd_spec.specs.Views.{document_view}
use Rattle.pd_gather.specs.ReadStreams.{AreReadOf}
use Rattle.pd_gather.specs.Views.{results_view}
use Rattle.pd_gather.proofs.Turns.{one_stream}
use Rattle.pd_gather.proofs.gathering.read_one.Goals as goal

pub returns-clause-read : goal.returns-clause-read
returns-clause-read g c =
    let names = (document_view c.args.spec.now).names in
    let input = g.R.ByteSource.left c.args.reader.now in
    let row = posted_row c.read_from.new.seat in
    subst (λ (given : List (Result Trace StreamFault)). AreReadOf names (input ∷ [])
    (results_view given) (row ∷ [])) (sym (rw c.in_ok-readings.ensures.items at c.in_ok-push.ensures.items))
    (one_stream names input (result_view c.in_ok-given.given) row
    (g.R.ByteSource.left c.read_from.new.reader, c.in_ok-given.ensures.read))

pub returns-in_err-given-clause-left : goal.returns-in_err-given-clause-left
returns-in_err-given-clause-left g c = record {
  rows = (inr (g.R.ByteSource.left c.read_from.new.reader, c.in_err-given.ensures.refused), tt);
}

pub returns-in_err-readings-clause-left : goal.returns-in_err-readings-clause-left
returns-in_err-readings-clause-left g c = record {
  rows = (
    inl (
      result_view c.in_ok-given.given,
      (g.R.ByteSource.left c.read_from.new.reader, c.in_ok-given.ensures.read),
    ),
    tt,
  );
}

pub returns-in_err-push-clause-left : goal.returns-in_err-push-clause-left
returns-in_err-push-clause-left g c = record {
  rows = (
    inl (
      result_view c.in_ok-given.given,
      (g.R.ByteSource.left c.read_from.new.reader, c.in_ok-given.ensures.read),
    ),
    tt,
  );
}

pub returns-clause-left : goal.returns-clause-left
returns-clause-left g c = record {
  rows = (
    inl (
      result_view c.in_ok-given.given,
      (g.R.ByteSource.left c.read_from.new.reader, c.in_ok-given.ensures.read),
    ),
    tt,
  );
}
