-- One value more.
use Rattle.std.proofs.Common.{◌∙◌, ◌++◌, ℤ, ap, w64}
use Rattle.std.proofs.lemmas.Int.{to_z-of_z}
use Rattle.out_page.specs.EventData.{value_text}
use Rattle.out_page.specs.JsonTexts.{comma_after}
use Rattle.out_page.proofs.Listed.{listed_at}
use Rattle.out_page.proofs.event_data.push_listed_values.Goals as goal

pub loop-i-preserved : goal.loop-i-preserved
loop-i-preserved c =
    listed_at value_text c.args.out.now.items c.loop-i.out.items c.push_next_value.new.out.items c.args.values.now
    c.loop-i.i c.value_in.result c.value_in.ensures c.loop-i.invariant
    (c.in_ok-push_next_value.ensures
    ∙ ap (λ (value : ℤ). c.loop-i.out.items ++ (comma_after c.loop-i.i ++ value_text value))
    (to_z-of_z w64 c.value_in.result (record { sfits = c.value_in.type_inv })))
