-- The value after its comma.
use Rattle.std.proofs.Common.{◌∙◌, ◌++◌, ℤ, ap, append_assoc, w64}
use Rattle.std.proofs.lemmas.Int.{to_z-of_z}
use Rattle.out_page.specs.EventData.{value_text}
use Rattle.out_page.specs.JsonTexts.{comma_after}
use Rattle.out_page.proofs.event_data.push_next_value.Goals as goal

pub returns : goal.returns
returns c =
    c.in_ok-push_value.ensures
    ∙ ap (λ (value : ℤ). c.push_comma_after.new.out.items ++ value_text value)
    (to_z-of_z w64 c.args.value c.ranges.value)
    ∙ ap (λ out. out ++ value_text c.args.value) c.in_ok-push_comma_after.ensures
    ∙ append_assoc c.args.out.now.items (comma_after c.args.before) (value_text c.args.value)
