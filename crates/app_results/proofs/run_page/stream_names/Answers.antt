-- One more name after each turn.
use Rattle.std.proofs.Common.{[], ◌∷◌, ap, length, map, sym, ◌∙◌}
use Rattle.std.proofs.lemmas.List.{map-append}
use Rattle.std.specs.Prelude.{string_bytes}
use Rattle.pd_spec.specs.Views.{document_view}
use Rattle.app_results.proofs.PagesOfRuns.{names_on}
use Rattle.app_results.proofs.run_page.stream_names.Goals as goal

pub loop-place-preserved : goal.loop-place-preserved
loop-place-preserved c =
    rw c.in_ok-push.ensures.items
    (map-append string_bytes c.loop-place.names.items (c.in_ok-stream_in.field-0 ∷ [])
    ∙ names_on c.args.folder.now (document_view c.args.spec.now).names c.names-in-loop-place.result.now
    c.processes-place-end.result c.loop-place.place c.name.result.now (string_bytes c.in_ok-stream_in.field-0)
    (map string_bytes c.loop-place.names.items) c.names-in-loop-place.ensures
    (c.processes-place-end.ensures ∙ ap length (c.names.ensures ∙ sym c.names-in-loop-place.ensures))
    c.loop-place-test.true c.name.ensures c.in_ok-stream_in.ensures c.loop-place.invariant)
