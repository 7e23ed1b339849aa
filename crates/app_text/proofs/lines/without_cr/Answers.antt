-- A line without a CR at its end.
use Rattle.app_text.proofs.CutLines.{cr_last, other_last}
use Rattle.app_text.proofs.lines.without_cr.Goals as goal

pub returns-then-last-eq13 : goal.returns-then-last-eq13
returns-then-last-eq13 c =
    cr_last c.args.line.now c.in-Some.rest.now c.in-Some.last.now c.in-Some.ensures.cases.0 c.if-last-eq13.true

pub returns-else-last-eq13 : goal.returns-else-last-eq13
returns-else-last-eq13 c =
    other_last c.args.line.now c.in-Some.rest.now c.in-Some.last.now c.in-Some.ensures.cases.0 c.if-last-eq13.false
