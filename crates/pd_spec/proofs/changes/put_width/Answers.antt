-- The width is at its place.
use Rattle.std.proofs.Common.{◌∙◌, ap, ap₂, sym}
use Rattle.serde_json.specs.Data.{put}
use Rattle.serde_json.specs.View.{members_view}
use Rattle.serde_json.proofs.Views.{members_view-insert_entry}
use Rattle.def_format.specs.Documents.{with_width}
use Rattle.pd_spec.proofs.changes.put_width.Goals as goal

pub returns-in_ok-insert : goal.returns-in_ok-insert
returns-in_ok-insert c =
    let fields = members_view c.args.fields.now.entries in
    ap members_view c.in_ok-insert.ensures.entries
    ∙ (members_view-insert_entry c.args.fields.now.entries c.in_ok-from_str.field-0 c.from.result
    ∙ (ap₂ (λ key value. put key value fields) c.in_ok-from_str.ensures.ok c.from.ensures
    ∙ ap (λ width. with_width width fields) (sym c.in-Some.is)))
