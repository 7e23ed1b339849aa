-- The first one, and then each after its comma.
use Rattle.std.proofs.Common.{arith}
use Rattle.std.proofs.lemmas.List.{take_all}
use Rattle.out_page.specs.EventData.{value_text}
use Rattle.out_page.specs.JsonTexts.{array}
use Rattle.out_page.proofs.Seen.{row_items}
use Rattle.out_page.proofs.Listed.{listed_seen}
use Rattle.out_page.proofs.event_data.push_rows.Goals as goal

pub returns : goal.returns
returns c =
    let others = c.in-Some.others.now in
    listed_seen (array value_text) row_items c.args.out.now.items c.push_row.new.out.items c.loop-row.out.items
    c.args.rows.now others _ c.in-Some.first.now c.in-Some.ensures.cases.0 c.in_ok-push_row.ensures
    c.loop-row.invariant (take_all c.loop-row.row-index others (omega arith))
