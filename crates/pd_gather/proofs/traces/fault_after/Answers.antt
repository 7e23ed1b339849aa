-- The fault of a stream after these.
use Rattle.std.proofs.Common.{◌≡◌, true, false, refl, sym, ◌∙◌}
use Rattle.def_format.specs.Sessions.{has_joined}
use Rattle.pd_gather.specs.Views.{results_view}
use Rattle.std.proofs.lemmas.List.{length-map}
use Rattle.pd_gather.proofs.Places.{any_joined}
use Rattle.pd_gather.proofs.traces.fault_after.Goals as goal

pub returns-then-has_joined : goal.returns-then-has_joined
returns-then-has_joined c =
    let joined : has_joined c.in-Ok.trace.process (results_view c.args.before.now) ≡ true =
    sym (any_joined c.in-Ok.trace.process c.args.before.now) ∙ (sym c.has_joined.ensures ∙ c.if-has_joined.true) in
    rw (c.in-Ok.is, joined, length-map) refl

pub returns-else-has_joined : goal.returns-else-has_joined
returns-else-has_joined c =
    let joined : has_joined c.in-Ok.trace.process (results_view c.args.before.now) ≡ false =
    sym (any_joined c.in-Ok.trace.process c.args.before.now) ∙ (sym c.has_joined.ensures ∙ c.if-has_joined.false) in
    rw (c.in-Ok.is, joined) refl
