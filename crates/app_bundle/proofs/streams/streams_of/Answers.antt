-- One more text after each turn.
use Rattle.std.proofs.Common.{List, map, string_bytes, subst}
use Rattle.std.proofs.lemmas.List.{take_all}
use Rattle.std.specs.List.{AllZip}
use Rattle.def_format.specs.Names.{ProcessNames}
use Rattle.def_judgement.specs.Writes.{Source}
use Rattle.app_host.proofs.FilesRead.{sources_of_names}
use Rattle.app_test.specs.Tests.{stream_in}
use Rattle.pd_spec.specs.Views.{document_view}
use Rattle.app_bundle.specs.Bundles.{IsStreamOf}
use Rattle.app_bundle.proofs.StreamsRead.{is_past, is_place, source_in, text_on}
use Rattle.app_bundle.proofs.streams.streams_of.Goals as goal

pub loop-place-preserved : goal.loop-place-preserved
loop-place-preserved g c =
    let lt = is_place (document_view c.args.spec.now).names c.names.result.now c.processes-place-end.result
    c.loop-place.place c.names.ensures c.processes-place-end.ensures c.loop-place-test.true in
    rw c.in_ok-push.ensures.items (text_on (g.Y.Files.FileSource.file_of c.args.world.now.files.now) c.args.folder.now
    string_bytes (document_view c.args.spec.now).names c.loop-place.texts.items c.loop-place.place
    c.in_ok-stream_at.field-0 lt c.loop-place.invariant c.in_ok-stream_at.ensures.text)

pub returns-clause-texts : goal.returns-clause-texts
returns-clause-texts g c =
    let files = g.Y.Files.FileSource.file_of c.args.world.now.files.now in
    let names = (document_view c.args.spec.now).names in
    let texts = map string_bytes c.loop-place.texts.items in
    let le = is_past names c.names.result.now c.processes-place-end.result c.loop-place.place c.names.ensures
    c.processes-place-end.ensures c.loop-place-test.false in
    subst (λ (sources : List Source). AllZip IsStreamOf sources texts) (sources_of_names files
    (stream_in c.args.folder.now) names)
    (subst (λ (some : List ProcessNames). AllZip IsStreamOf (map (source_in files c.args.folder.now) some) texts)
    (take_all c.loop-place.place names le) c.loop-place.invariant)
