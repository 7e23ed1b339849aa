-- A line is added, or is at fault.
use Rattle.app_merge.proofs.SoFar.{added, wrong_line}
use Rattle.app_merge.proofs.input_lines.add_next.Goals as goal

pub returns-in-Ok-clause-gives : goal.returns-in-Ok-clause-gives
returns-in-Ok-clause-gives g c = λ input number so_far.
    added input c.args.lines.now c.next.new.self c.args.summary.now c.add_line.new.summary number c.in-Some.line so_far
    (rw c.in-Some.is at c.in_ok-found.ensures.gives) (λ bytes is. c.in-Ok.ensures bytes is)

pub returns-in-Some-wrong_of-clause-gives : goal.returns-in-Some-wrong_of-clause-gives
returns-in-Some-wrong_of-clause-gives g c = λ input number so_far.
    wrong_line input c.args.lines.now c.next.new.self c.args.summary.now number c.in-Some.line c.in-Err.fault
    c.in-Some-wrong_of.wrong so_far (rw c.in-Some.is at c.in_ok-found.ensures.gives)
    (λ bytes is. c.in-Err.ensures bytes is) c.in-Some-wrong_of.ensures
