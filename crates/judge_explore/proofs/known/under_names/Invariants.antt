-- The values so far.
use Rattle.std.proofs.Common.{◌≡◌, map, take}
use Rattle.std.specs.Prelude.{string_bytes}
use Rattle.out_json.specs.Known.{value_view}
use Rattle.judge_explore.specs.Known.{under_name}
use Rattle.judge_explore.proofs.known.under_names.Given as goal

abbrev pub invariant-loop-var : goal.invariant-loop-var
invariant-loop-var l =
    map value_view l.found.items ≡ map (under_name (map string_bytes l.vars)) (take l.var-index l.values)
