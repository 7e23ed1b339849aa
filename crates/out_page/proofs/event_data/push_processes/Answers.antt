-- One process more.
use Rattle.out_page.specs.EventData.{process_text}
use Rattle.out_page.proofs.Listed.{listed_more}
use Rattle.out_page.proofs.event_data.push_processes.Goals as goal

pub loop-p-preserved : goal.loop-p-preserved
loop-p-preserved c =
    listed_more process_text c.args.out.now.items c.loop-p.out.items c.push_next_process.new.out.items
    c.args.names.now c.loop-p.p (rw c.processes-p-end.ensures at c.loop-p-test.true) c.loop-p.invariant
    c.in_ok-push_next_process.ensures
