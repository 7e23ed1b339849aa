-- The lines so far.
use Rattle.std.proofs.Common.{◌≡◌, ◌++◌, map, take}
use Rattle.judge_runs.specs.Tallies.{indented}
use Rattle.judge_runs.proofs.tally.push_lines.Given as goal

abbrev pub invariant-loop-line : goal.invariant-loop-line
invariant-loop-line l = l.out.items
    ≡ l.initial.out.items ++ indented (map (λ line. line.items) (take l.line-index l.lines))
