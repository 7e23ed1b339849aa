-- The first line, and the numbers of the others.
use Rattle.std.proofs.Common.{◌∙◌}
use Rattle.judge_explore.proofs.StreamFiles.{file_seen}
use Rattle.judge_explore.proofs.stream_file.file_of_lines.Goals as goal

pub returns : goal.returns
returns c =
    file_seen c.args.name.now c.args.lines.now c.in-Some.later.now c.in-Some.first.now c.in_ok-join.join.items
    c.in_ok-lines.lines.items c.in-Some.ensures.cases.0 (c.in_ok-join.ensures.items ∙ c.deref.ensures.value)
    c.in_ok-lines.ensures
