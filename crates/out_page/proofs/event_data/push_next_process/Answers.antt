-- The process after its comma.
use Rattle.std.proofs.Common.{◌∙◌, ◌++◌, ap, append_assoc}
use Rattle.out_page.specs.EventData.{process_text}
use Rattle.out_page.specs.JsonTexts.{comma_after}
use Rattle.out_page.proofs.event_data.push_next_process.Goals as goal

pub returns : goal.returns
returns c = λ process is.
    c.in_ok-push_process.ensures process is
    ∙ ap (λ out. out ++ process_text process) c.in_ok-push_comma_after.ensures
    ∙ append_assoc c.args.out.now.items (comma_after c.args.p) (process_text process)
