-- The others so far.
use Rattle.std.proofs.Common.{◌≡◌, ◌∷◌, ◌++◌, take}
use Rattle.std.specs.Prelude.{flat_map}
use Rattle.out_page.specs.EventData.{message_text}
use Rattle.out_page.proofs.Seen.{pair_view}
use Rattle.out_page.proofs.event_data.push_messages.Given as goal

abbrev pub invariant-loop-pair : goal.invariant-loop-pair
invariant-loop-pair l =
    l.out.items ≡ l.initial.out.items ++ flat_map (λ x. 44 ∷ message_text (pair_view x)) (take l.pair-index l.others)
