-- An event that sets the variable is found, and each other one doesn't set it.
use Rattle.std.proofs.Common.{sym, ap, ◌∙◌}
use Rattle.def_model.specs.Events.{Event}
use Rattle.judge_facts.specs.Settings.{is_set_in}
use Rattle.judge_facts.proofs.Tests.{found, none_more, mapped}
use Rattle.judge_facts.proofs.settings.is_set.Goals as goal

pub returns-then-is_set_in : goal.returns-then-is_set_in
returns-then-is_set_in c =
    let at = mapped (λ (event : Event). event.sets) c.args.events.now c.loop-k.k c.settings.result c.settings.ensures in
    sym (found (λ (event : Event). is_set_in c.args.var event.sets) c.args.events.now c.loop-k.k at.0 at.1
    (ap (is_set_in c.args.var) at.2 ∙ sym c.is_set_in.ensures ∙ c.if-is_set_in.true))

pub loop-k-preserved : goal.loop-k-preserved
loop-k-preserved c =
    let at = mapped (λ (event : Event). event.sets) c.args.events.now c.loop-k.k c.settings.result c.settings.ensures in
    none_more (λ (event : Event). is_set_in c.args.var event.sets) c.args.events.now c.loop-k.k at.0 at.1
    (ap (is_set_in c.args.var) at.2 ∙ sym c.is_set_in.ensures ∙ c.if-is_set_in.false) c.loop-k.invariant
