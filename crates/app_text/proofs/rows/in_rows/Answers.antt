-- A line is put in rows, and then come the others.
use Rattle.app_text.proofs.RowLengths.{lines_go_on, lines_end}
use Rattle.app_text.proofs.rows.in_rows.Goals as goal

pub lines-preserved : goal.lines-preserved
lines-preserved c =
    lines_go_on c.args.text.now c.lines.out.items c.push_line.new.out.items c.push_bytes.new.out.items c.lines.rest.now
    c.cut_line.result.0.now c.in-Some.after.now c.lines.invariant (rw c.in-Some.is at c.cut_line.ensures)
    c.in_ok-push_line.ensures c.in_ok-push_bytes-in-Some.ensures.ok

pub returns-in-None : goal.returns-in-None
returns-in-None c =
    lines_end c.args.text.now c.lines.out.items c.push_line.new.out.items c.lines.rest.now c.cut_line.result.0.now
    c.lines.invariant (rw c.in-None.is at c.cut_line.ensures) c.in_ok-push_line.ensures
