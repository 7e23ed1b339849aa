-- The number of this process's variable of this name, from 0.
use Rattle.std.proofs.Common.{sym, ◌∙◌, ap, ℕ, string_bytes}
use Rattle.std.specs.Prelude.{List, position}
use Rattle.std.specs.Str.{bytes_eq}
use Rattle.pd_pred.proofs.Positions.{position-map}
use Rattle.pd_pred.proofs.names.Names.find_var.Goals as goal

pub returns : goal.returns
returns c =
    c.text_at.ensures ∙ (sym (position-map (λ (var : List ℕ). bytes_eq var c.args.name.now) string_bytes
    c.vars.result.now)
    ∙ ap (λ (vars : List (List ℕ)). position (λ var. bytes_eq var c.args.name.now) vars) c.vars.ensures)
