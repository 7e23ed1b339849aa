-- The event after its comma.
use Rattle.std.proofs.Common.{◌∙◌, ◌++◌, ap, append_assoc}
use Rattle.std.specs.Prelude.{codes}
use Rattle.out_page.specs.EventData.{event_text}
use Rattle.out_page.proofs.event_data.push_next_event.Goals as goal

pub returns : goal.returns
returns c = λ event is.
    c.in_ok-push_event.ensures event is
    ∙ ap (λ out. out ++ event_text event) c.in_ok-push_bytes.ensures.ok
    ∙ append_assoc c.args.out.now.items (codes ",") (event_text event)
