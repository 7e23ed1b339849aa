-- The others so far.
use Rattle.std.proofs.Common.{◌≡◌, ◌∷◌, ◌++◌, take}
use Rattle.std.specs.Prelude.{flat_map}
use Rattle.out_page.specs.EventData.{events_text}
use Rattle.out_page.proofs.Seen.{trace_events}
use Rattle.out_page.proofs.event_data.push_traces.Given as goal

abbrev pub invariant-loop-trace : goal.invariant-loop-trace
invariant-loop-trace l =
    l.out.items ≡ l.initial.out.items ++ flat_map (λ x. 44 ∷ events_text (trace_events x)) (take l.trace-index l.others)
