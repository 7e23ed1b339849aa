-- A window is shown if there is a place.
use Rattle.app_text.proofs.Columns.{shown_there}
use Rattle.app_text.proofs.window.put_line.Goals as goal

pub returns-in_ok-put_parts-in-Some : goal.returns-in_ok-put_parts-in-Some
returns-in_ok-put_parts-in-Some c =
    shown_there c.args.line.now c.bytes_before.result.now c.bytes_from.result.now c.args.out.now.items
    c.put_parts.new.out.items c.in-Some.place c.args.place c.in-Some.is c.bytes_before.ensures c.bytes_from.ensures
    c.in_ok-put_parts-in-Some.ensures
