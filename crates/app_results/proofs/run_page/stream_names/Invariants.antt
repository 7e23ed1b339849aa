-- The names so far.
use Rattle.std.proofs.Common.{◌≡◌, map, take}
use Rattle.std.specs.Prelude.{string_bytes}
use Rattle.app_test.specs.Tests.{streams_in}
use Rattle.pd_spec.specs.Views.{document_view}
use Rattle.app_results.proofs.run_page.stream_names.Given as goal

abbrev pub invariant-loop-place : goal.invariant-loop-place
invariant-loop-place l =
    map string_bytes l.names.items ≡ streams_in l.folder (take l.place (document_view l.spec).names)
