-- Those that are left give what all give.
use Rattle.std.proofs.Common.{◌≡◌, drop, map}
use Rattle.serde_json.specs.Data.{no_members}
use Rattle.serde_json.specs.View.{members_view}
use Rattle.out_json.specs.JsonReports.{put_all, process_field}
use Rattle.out_json.specs.Known.{process_view}
use Rattle.out_json.proofs.places.known_fields.Given as goal

abbrev pub invariant-loop-place : goal.invariant-loop-place
invariant-loop-place l =
    put_all (map process_field (map process_view (drop l.place l.known))) (members_view l.fields.entries)
    ≡ put_all (map process_field (map process_view l.known)) no_members
