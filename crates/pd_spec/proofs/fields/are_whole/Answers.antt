-- What the values of the entries pass, the values of the fields do.
use Rattle.std.proofs.Common.{◌∙◌}
use Rattle.std.specs.Prelude.{is_some}
use Rattle.serde_json.specs.Data.{Data}
use Rattle.def_format.specs.Records.{whole_number}
use Rattle.pd_spec.proofs.MemberViews.{all_values-entries}
use Rattle.pd_spec.proofs.fields.are_whole.Goals as goal

pub returns : goal.returns
returns c =
    c.values_are_whole.ensures ∙ all_values-entries (λ (value : Data). is_some (whole_number value))
    c.args.fields.now.entries
