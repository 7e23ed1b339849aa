-- One event more.
use Rattle.std.proofs.Common.{◌∷◌}
use Rattle.out_page.specs.EventData.{event_text}
use Rattle.out_page.proofs.Listed.{each_more}
use Rattle.out_page.proofs.event_data.push_each_event.Goals as goal

pub loop-k-preserved : goal.loop-k-preserved
loop-k-preserved c =
    each_more (λ event. 44 ∷ event_text event) c.args.out.now.items c.loop-k.out.items
    c.push_next_event.new.out.items c.args.events.now c.loop-k.k (rw c.len-k-end.ensures at c.loop-k-test.true)
    c.loop-k.invariant c.in_ok-push_next_event.ensures
