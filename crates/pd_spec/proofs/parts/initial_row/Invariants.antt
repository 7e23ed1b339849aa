-- What the loops of `initial_row` keep.
use Rattle.std.proofs.Common.{◌≡◌, ◌++◌, map}
use Rattle.std.specs.BTreeMap.{values}
use Rattle.serde_json.specs.View.{view}
use Rattle.serde_json.specs.declared.value.Value.{Value}
use Rattle.pd_spec.specs.Outlines.{initial_value}
use Rattle.pd_spec.proofs.parts.initial_row.Given as goal

abbrev pub invariant-loop-value : goal.invariant-loop-value
invariant-loop-value l = l.row.items ++ map (λ (value : Value). initial_value (view value)) l.value-iterator
    ≡ map (λ (value : Value). initial_value (view value)) (values l.vars)
