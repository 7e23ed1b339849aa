-- The first one, and then each after its comma.
use Rattle.std.proofs.Common.{arith}
use Rattle.std.proofs.lemmas.List.{take_all}
use Rattle.out_page.specs.EventData.{events_text}
use Rattle.out_page.proofs.Seen.{trace_events}
use Rattle.out_page.proofs.Listed.{listed_seen}
use Rattle.out_page.proofs.event_data.push_traces.Goals as goal

pub returns : goal.returns
returns c =
    let others = c.in-Some.others.now in
    listed_seen events_text trace_events c.args.out.now.items c.push_trace.new.out.items c.loop-trace.out.items
    c.args.traces.now others _ c.in-Some.first.now c.in-Some.ensures.cases.0 c.in_ok-push_trace.ensures
    c.loop-trace.invariant (take_all c.loop-trace.trace-index others (omega arith))
