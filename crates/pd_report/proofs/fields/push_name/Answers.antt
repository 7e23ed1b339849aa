-- The name at a place.
use Rattle.std.proofs.Common.{◌∙◌, ◌++◌, ap}
use Rattle.std.specs.Prelude.{string_bytes}
use Rattle.pd_report.proofs.Places.{named}
use Rattle.pd_report.proofs.fields.push_name.Goals as goal

pub returns : goal.returns
returns c =
    c.in_ok-push_bytes.ensures.ok
    ∙ ap (λ word. c.args.out.now.items ++ word) (c.as_bytes.ensures.value ∙ ap string_bytes c.index-names-step.is
    ∙ named c.args.names.now c.args.step _ c.requires)
