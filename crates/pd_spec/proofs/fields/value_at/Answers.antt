-- The value of this field, if it is there.
use Rattle.std.proofs.Common.{ap, ◌∙◌, option_map}
use Rattle.serde_json.specs.View.{view}
use Rattle.serde_json.proofs.Views.{view_of_ref, view-lookup}
use Rattle.pd_spec.proofs.fields.value_at.Goals as goal

pub returns : goal.returns
returns c =
    view_of_ref c.get.result ∙ (ap (λ found. option_map view found) c.get.ensures.value
    ∙ view-lookup c.args.name.now c.args.fields.now.entries)
