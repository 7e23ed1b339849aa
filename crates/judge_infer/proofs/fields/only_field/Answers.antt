-- The name and the value of the field, if there is one alone.
use Rattle.std.proofs.Common.{ℕ, List, sym, ◌∙◌, ap}
use Rattle.serde_json.specs.Data.{member, no_members}
use Rattle.serde_json.specs.View.{view}
use Rattle.judge_infer.proofs.FieldViews.{one_entry}
use Rattle.judge_infer.proofs.fields.only_field.Goals as goal

pub returns : goal.returns
returns c =
    one_entry c.args.fields.now.entries c.in_ok-name.name.now c.in_ok-name.value.now (sym c.len.ensures.len
    ∙ c.if-len-ne1.false) c.in_ok-name.ensures.first
    ∙ ap (λ (name : List ℕ). member name (view c.in_ok-name.value.now) no_members) (sym c.as_str.ensures.value)
