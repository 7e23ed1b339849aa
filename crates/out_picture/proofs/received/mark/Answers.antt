-- The row of one process is another, and the other rows stay.
use Rattle.std.proofs.Common.{◌≡◌, ℕ, List, [], Bool, length, sym, ap, ◌∙◌, arith}
use Rattle.std.specs.Vec.{with_items}
use Rattle.std.proofs.lemmas.List.{with_items_is}
use Rattle.out_picture.specs.Received.{marks_of, with_mark}
use Rattle.out_picture.proofs.ReceivedFacts.{length_marked, none_marked, row_kept, row_past, row_read, row_written}
use Rattle.out_picture.proofs.received.mark.Goals as goal

pub returns-then-event-len-clause-here : goal.returns-then-event-len-clause-here
returns-then-event-len-clause-here c =
    let was : marks_of c.args.rows.now.items c.args.event.process ≡ c.index_mut.result.now.items =
    row_read c.args.rows.now.items c.args.event.process c.index_mut.result.now (omega arith)
    c.index_mut.ensures.value in
    let marks_are : c.set_mark.new.marks ≡ with_mark (marks_of c.args.rows.now.items c.args.event.process)
    c.args.event.number =
    c.set_mark.ensures
    ∙ ap (λ (marks : List Bool). with_mark marks c.args.event.number) (c.deref_mut.ensures.value ∙ sym was) in
    let many : length c.set_mark.new.marks ≡ c.index_mut.result.now.len =
    ap length marks_are ∙ (length_marked (marks_of c.args.rows.now.items c.args.event.process) c.args.event.number
    ∙ (ap length was ∙ sym c.index_mut.result.now.ok.0)) in
    row_written c.args.rows.now.items c.args.event.process (with_items c.index_mut.result.now c.set_mark.new.marks)
    (omega arith) ∙ (with_items_is c.index_mut.result.now c.set_mark.new.marks many ∙ marks_are)

pub returns-then-event-len-clause-others : goal.returns-then-event-len-clause-others
returns-then-event-len-clause-others c = row_kept c.args.rows.now.items c.args.event.process _

pub returns-else-event-len-clause-here : goal.returns-else-event-len-clause-here
returns-else-event-len-clause-here c =
    let past : marks_of c.args.rows.now.items c.args.event.process ≡ [] =
    row_past c.args.rows.now.items c.args.event.process (omega arith) in
    past ∙ (sym (none_marked c.args.event.number)
    ∙ sym (ap (λ (marks : List Bool). with_mark marks c.args.event.number) past))
