-- The events and the messages, part by part.
use Rattle.std.specs.Prelude.{codes}
use Rattle.pd_match.specs.Views.{pairs_view}
use Rattle.out_page.specs.EventData.{events_text, message_text}
use Rattle.out_page.specs.JsonTexts.{listed}
use Rattle.out_page.specs.Written.{run_text}
use Rattle.out_page.proofs.Parts.{five_parts}
use Rattle.read_traces.specs.Views.{computation_view}
use Rattle.out_page.proofs.page_data.push_run.Goals as goal

pub returns : goal.returns
unfolding run_text
returns c =
    five_parts c.args.out.now.items c.push_bytes.new.out.items c.push_traces.new.out.items
    c.push_bytes-2.new.out.items c.push_messages.new.out.items c.push_bytes-3.new.out.items
    (codes ",\n\"events\":[") (listed events_text (computation_view c.args.traces.now))
    (codes "],\n\"messages\":[") (listed message_text (pairs_view c.args.pairs.now)) (codes "]")
    c.in_ok-push_bytes.ensures.ok c.in_ok-push_traces.ensures c.in_ok-push_bytes-2.ensures.ok
    c.in_ok-push_messages.ensures c.in_ok-push_bytes-3.ensures.ok
