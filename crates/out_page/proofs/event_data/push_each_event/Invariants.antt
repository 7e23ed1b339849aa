-- The events so far.
use Rattle.std.proofs.Common.{◌≡◌, ◌∷◌, ◌++◌, take}
use Rattle.std.specs.Prelude.{flat_map}
use Rattle.out_page.specs.EventData.{event_text}
use Rattle.out_page.proofs.event_data.push_each_event.Given as goal

abbrev pub invariant-loop-k : goal.invariant-loop-k
invariant-loop-k l =
    l.out.items ≡ l.initial.out.items ++ flat_map (λ event. 44 ∷ event_text event) (take l.k l.events)
