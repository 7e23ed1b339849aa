-- The names so far are alike.
use Rattle.std.proofs.Common.{◌≡◌, map, take}
use Rattle.std.specs.Prelude.{string_bytes}
use Rattle.judge_check.proofs.evidence.are_for.Given as goal

abbrev pub invariant-loop-i : goal.invariant-loop-i
invariant-loop-i l =
    map (λ answer. string_bytes answer.name) (take l.i l.answers)
    ≡ map (λ predicate. string_bytes predicate.name) (take l.i l.asked)
