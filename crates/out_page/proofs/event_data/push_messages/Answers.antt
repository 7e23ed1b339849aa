-- The first one, and then each after its comma.
use Rattle.std.proofs.Common.{arith}
use Rattle.std.proofs.lemmas.List.{take_all}
use Rattle.out_page.specs.EventData.{message_text}
use Rattle.out_page.proofs.Seen.{pair_view}
use Rattle.out_page.proofs.Listed.{listed_seen}
use Rattle.out_page.proofs.event_data.push_messages.Goals as goal

pub returns : goal.returns
returns c =
    let others = c.in-Some.others.now in
    listed_seen message_text pair_view c.args.out.now.items c.push_message.new.out.items c.loop-pair.out.items
    c.args.pairs.now others _ c.in-Some.first.now c.in-Some.ensures.cases.0 c.in_ok-push_message.ensures
    c.loop-pair.invariant (take_all c.loop-pair.pair-index others (omega arith))
