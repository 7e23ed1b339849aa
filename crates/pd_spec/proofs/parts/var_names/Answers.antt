-- That `var_names` meets its contract.
use Rattle.std.proofs.Common.{◌≡◌, map, string_bytes, arith}
use Rattle.std.proofs.lemmas.Grind.{common_steps}
use Rattle.std.specs.BTreeMap.{keys}
use Rattle.pd_spec.proofs.Distinct.{distinct_keys}
use Rattle.pd_spec.proofs.parts.var_names.Goals as goal

pub returns-clause-distinct : goal.returns-clause-distinct
returns-clause-distinct c =
    let same : map string_bytes c.loop-key.names.items ≡ map string_bytes (keys c.args.vars.now) =
    grind (arith, common_steps) in
    rw same (distinct_keys (keys c.args.vars.now) c.keys-key-items.ensures.ordered)
