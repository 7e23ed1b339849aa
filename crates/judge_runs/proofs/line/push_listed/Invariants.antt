-- The texts after the first one so far.
use Rattle.std.proofs.Common.{◌≡◌, ◌++◌, map, take, codes}
use Rattle.std.specs.Prelude.{flat_map}
use Rattle.judge_runs.proofs.line.push_listed.Given as goal

abbrev pub invariant-loop-text : goal.invariant-loop-text
invariant-loop-text l = l.out.items
    ≡ l.initial.out.items
    ++ flat_map (λ text. codes ", " ++ text) (map (λ text. text.items) (take l.text-index l.more))
