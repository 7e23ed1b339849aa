-- Those that are left give what all give.
use Rattle.std.proofs.Common.{◌≡◌, drop, map}
use Rattle.serde_json.specs.Data.{no_members}
use Rattle.serde_json.specs.View.{members_view}
use Rattle.out_json.specs.JsonReports.{put_all, value_field}
use Rattle.out_json.specs.Known.{value_view}
use Rattle.out_json.proofs.places.value_fields.Given as goal

abbrev pub invariant-loop-place : goal.invariant-loop-place
invariant-loop-place l =
    put_all (map value_field (map value_view (drop l.place l.values))) (members_view l.fields.entries)
    ≡ put_all (map value_field (map value_view l.values)) no_members
