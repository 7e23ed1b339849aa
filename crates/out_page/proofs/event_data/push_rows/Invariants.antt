-- The others so far.
use Rattle.std.proofs.Common.{◌≡◌, ◌∷◌, ◌++◌, take}
use Rattle.std.specs.Prelude.{flat_map}
use Rattle.out_page.specs.EventData.{value_text}
use Rattle.out_page.specs.JsonTexts.{array}
use Rattle.out_page.proofs.Seen.{row_items}
use Rattle.out_page.proofs.event_data.push_rows.Given as goal

abbrev pub invariant-loop-row : goal.invariant-loop-row
invariant-loop-row l =
    l.out.items ≡ l.initial.out.items ++ flat_map (λ x. 44 ∷ array value_text (row_items x)) (take l.row-index l.others)
