-- The first line of bytes: `memchr` finds the first LF.
use Rattle.app_text.proofs.CutLines.{cut_at, cut_nowhere}
use Rattle.app_text.proofs.lines.cut_line.Goals as goal

pub returns-in-Some : goal.returns-in-Some
returns-in-Some c = cut_at c.args.bytes.now c.in-Some.end c.in-Some.ensures

pub returns-in-None : goal.returns-in-None
returns-in-None c = cut_nowhere c.args.bytes.now c.in-None.ensures
