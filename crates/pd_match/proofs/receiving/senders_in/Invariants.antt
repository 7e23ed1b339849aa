-- What the loops of `senders_in` keep.
use Rattle.std.specs.Prelude.{◌≡◌, length}
use Rattle.def_format.specs.Versions.{version_view}
use Rattle.read_traces.specs.Views.{computation_view}
use Rattle.pd_match.specs.Noted.{event_place, last_receiver, sends_marked}
use Rattle.pd_match.specs.Progress.{MatchedBefore, RowTells, SendsBefore}
use Rattle.pd_match.proofs.receiving.senders_in.Given as goal

abbrev pub invariant-loop-n : goal.invariant-loop-n
invariant-loop-n g l = record {
  matched : MatchedBefore (version_view l.version) (computation_view l.traces) (event_place l.p l.n)
      (last_receiver l.sends l.received.items);
  row : RowTells (computation_view l.traces) l.p l.row.items l.n;
  same : length l.received.items ≡ length l.fn.received.items;
  count : SendsBefore (computation_view l.traces) (event_place l.p l.n) (sends_marked l.received.items);
}
