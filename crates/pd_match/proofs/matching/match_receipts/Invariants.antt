-- What the loops of `match_receipts` keep.
use Rattle.std.specs.Prelude.{◌≡◌, length}
use Rattle.indexmap.specs.IndexMap.{index_map_len}
use Rattle.def_format.specs.Versions.{version_view}
use Rattle.read_traces.specs.Views.{computation_view}
use Rattle.pd_match.specs.Noted.{event_place, last_receiver, sends_marked}
use Rattle.pd_match.specs.Progress.{MatchedBefore, RowsTell, SendsBefore}
use Rattle.pd_match.proofs.matching.match_receipts.Given as goal

abbrev pub invariant-loop-p : goal.invariant-loop-p
invariant-loop-p g l = record {
  matched : MatchedBefore (version_view l.version) (computation_view l.traces) (event_place l.p 0)
      (last_receiver l.sends l.received.items);
  rows : RowsTell (computation_view l.traces) l.senders.items l.p;
  same : length l.received.items ≡ index_map_len l.sends;
  count : SendsBefore (computation_view l.traces) (event_place l.p 0) (sends_marked l.received.items);
}
