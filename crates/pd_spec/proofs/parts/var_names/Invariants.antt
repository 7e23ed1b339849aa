-- What the loops of `var_names` keep.
use Rattle.std.proofs.Common.{◌≡◌, ◌++◌, map, string_bytes}
use Rattle.std.specs.BTreeMap.{keys}
use Rattle.pd_spec.proofs.parts.var_names.Given as goal

abbrev pub invariant-loop-key : goal.invariant-loop-key
invariant-loop-key l = map string_bytes l.names.items ++ map string_bytes l.key-iterator
    ≡ map string_bytes (keys l.vars)
