-- Whether one of the variables has this name.
use Rattle.std.proofs.Common.{sym, ◌∙◌, string_bytes}
use Rattle.std.specs.Str.{bytes_eq}
use Rattle.def_format.proofs.ListTests.{list_any-map}
use Rattle.judge_infer.proofs.names.has_var.Goals as goal

pub returns : goal.returns
returns c =
    c.is_var.ensures ∙ sym (list_any-map (λ other. bytes_eq c.args.name.now other) string_bytes c.args.vars.now)
