-- Whether each field is one of these variables.
use Rattle.std.proofs.Common.{◌∙◌}
use Rattle.pd_events.proofs.FieldViews.{has_only_vars-entries}
use Rattle.pd_events.proofs.fields.has_only_vars.Goals as goal

pub returns : goal.returns
returns c = c.keys_are_vars.ensures ∙ has_only_vars-entries c.args.vars.now c.args.fields.now.entries
