-- The event, part by part.
use Rattle.std.proofs.Common.{◌≡◌, ◌∙◌, ◌++◌, ℕ, ℤ, List, ap}
use Rattle.std.specs.Prelude.{codes, flat_map, slice_get}
use Rattle.def_model.specs.Events.{Event, Kind}
use Rattle.out_page.specs.EventData.{kind_text, setting_text}
use Rattle.out_page.proofs.Parts.{four_parts, part_is}
use Rattle.read_traces.specs.Columns.{seen_kind_view}
use Rattle.out_page.proofs.event_data.push_event.Goals as goal

pub returns : goal.returns
returns c = λ event is.
    let kind : seen_kind_view c.kind.result ≡ event.kind =
    part_is (λ (e : Event). e.kind) (slice_get c.args.events.now c.args.k) event (seen_kind_view c.kind.result)
    c.kind.ensures.kind is in
    let sets : c.settings.result ≡ event.sets =
    part_is (λ (e : Event). e.sets) (slice_get c.args.events.now c.args.k) event c.settings.result c.settings.ensures
    is in
    four_parts c.args.out.now.items c.push_bytes.new.out.items c.push_kind.new.out.items
    c.push_settings.new.out.items c.push_bytes-2.new.out.items (codes "[") (kind_text event.kind)
    (flat_map setting_text event.sets) (codes "]") c.in_ok-push_bytes.ensures.ok
    (c.in_ok-push_kind.ensures ∙ ap (λ (k : Kind). c.push_bytes.new.out.items ++ kind_text k) kind)
    (c.in_ok-push_settings.ensures
    ∙ ap (λ (s : List (ℕ × ℤ)). c.push_kind.new.out.items ++ flat_map setting_text s) sets)
    c.in_ok-push_bytes-2.ensures.ok
