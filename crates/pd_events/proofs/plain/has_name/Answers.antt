-- Whether the variable at a place has a name.
use Rattle.std.proofs.Common.{sym, ◌∙◌}
use Rattle.std.proofs.lemmas.Slice.Eq.{bytes_eq-Decides}
use Rattle.pd_events.proofs.PlainSettings.{name_at}
use Rattle.pd_events.proofs.plain.has_name.Goals as goal

pub returns-then-v-vars : goal.returns-then-v-vars
returns-then-v-vars c = λ is. (
  c.if-v-vars.true,
  name_at c.args.vars.now c.args.v c.index-vars-v.result c.args.name.now c.index-vars-v.is c.if-v-vars.true
      (sym c.as_bytes.ensures.value ∙ (bytes_eq-Decides _ c.args.name.now).0 (sym c.eq.ensures ∙ is)),
)
