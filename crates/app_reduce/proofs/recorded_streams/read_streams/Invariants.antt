-- The streams that are read so far, and those that are left.
use Rattle.std.proofs.Common.{◌≡◌, drop, map, take}
use Rattle.std.specs.List.{AllZip}
use Rattle.std.specs.Prelude.{All}
use Rattle.def_recordings.specs.Recordings.{recorded_event_limit}
use Rattle.pd_gather.specs.Views.{ReadingFitsWithin, results_view}
use Rattle.pd_spec.specs.Views.{document_view}
use Rattle.app_reduce.specs.Outcomes.{ComesTo}
use Rattle.app_reduce.proofs.recorded_streams.read_streams.Given as goal

abbrev pub invariant-loop-place : goal.invariant-loop-place
invariant-loop-place g l =
    (l.rest.items ≡ drop l._place l.fn.sources.items)
    × AllZip (ComesTo (document_view l.spec).names) (map g.R.ByteSource.left (take l._place l.fn.sources.items))
    (results_view l.readings.items)
    × All (ReadingFitsWithin recorded_event_limit (document_view l.spec).names) l.readings.items
