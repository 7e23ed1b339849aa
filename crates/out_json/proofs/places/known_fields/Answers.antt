-- One more process, and the end.
use Rattle.std.proofs.Common.{map, arith}
use Rattle.serde_json.specs.Data.{no_members}
use Rattle.serde_json.specs.View.{members_view}
use Rattle.out_json.specs.JsonReports.{put_all, process_field}
use Rattle.out_json.specs.Known.{process_view}
use Rattle.out_json.proofs.Put.{no_more_put}
use Rattle.out_json.proofs.places.known_fields.Goals as goal

pub returns : goal.returns
returns c =
    no_more_put process_field process_view c.args.known.now c.loop-place.place
    (members_view c.loop-place.fields.entries)
    (put_all (map process_field (map process_view c.args.known.now)) no_members) (omega arith) c.loop-place.invariant
