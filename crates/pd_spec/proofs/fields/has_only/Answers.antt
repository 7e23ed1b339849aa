-- Whether each field of the object is one of these.
use Rattle.std.proofs.Common.{◌∙◌}
use Rattle.pd_spec.proofs.MemberViews.{has_only-entries}
use Rattle.pd_spec.proofs.fields.has_only.Goals as goal

pub returns : goal.returns
returns c = c.keys_are_among.ensures ∙ has_only-entries c.args.names.now c.args.fields.now.entries
