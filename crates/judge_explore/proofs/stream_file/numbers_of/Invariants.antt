-- The numbers so far.
use Rattle.std.proofs.Common.{◌≡◌, map, take}
use Rattle.pd_frames.specs.declared.line.Line.{Line}
use Rattle.judge_explore.proofs.stream_file.numbers_of.Given as goal

abbrev pub invariant-loop-line : goal.invariant-loop-line
invariant-loop-line l = l.numbers.items ≡ map (λ (line : Line). line.number) (take l.line-index l.lines)
