-- The variables after the first one so far.
use Rattle.std.proofs.Common.{◌≡◌, ◌++◌, map, take, codes, string_bytes}
use Rattle.std.specs.Prelude.{flat_map}
use Rattle.judge_infer.specs.DocumentParts.{var_text}
use Rattle.judge_infer.proofs.text.push_vars.Given as goal

abbrev pub invariant-loop-var : goal.invariant-loop-var
invariant-loop-var l = l.out.items
    ≡ l.initial.out.items
    ++ flat_map (λ other. codes "," ++ other) (map var_text (map string_bytes (take l.var-index l.more)))
