-- One more value, and the end.
use Rattle.std.proofs.Common.{map, arith}
use Rattle.serde_json.specs.Data.{no_members}
use Rattle.serde_json.specs.View.{members_view}
use Rattle.out_json.specs.JsonReports.{put_all, value_field}
use Rattle.out_json.specs.Known.{value_view}
use Rattle.out_json.proofs.Put.{no_more_put}
use Rattle.out_json.proofs.places.value_fields.Goals as goal

pub returns : goal.returns
returns c =
    no_more_put value_field value_view c.args.values.now c.loop-place.place
    (members_view c.loop-place.fields.entries)
    (put_all (map value_field (map value_view c.args.values.now)) no_members) (omega arith) c.loop-place.invariant
