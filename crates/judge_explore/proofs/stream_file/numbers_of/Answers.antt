-- All of them in the end.
use Rattle.std.proofs.Common.{◌∙◌, List, ap, arith, map}
use Rattle.std.proofs.lemmas.List.{take_all}
use Rattle.pd_frames.specs.declared.line.Line.{Line}
use Rattle.judge_explore.proofs.stream_file.numbers_of.Goals as goal

pub returns : goal.returns
returns c =
    c.loop-line.invariant
    ∙ ap (λ (lines : List Line). map (λ (line : Line). line.number) lines)
    (take_all c.loop-line.line-index c.args.lines.now (omega arith))
