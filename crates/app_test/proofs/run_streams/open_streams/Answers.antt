-- One more stream is open after each turn.
use Rattle.std.proofs.Common.{◌≡◌, List, map, subst, false, arith}
use Rattle.std.proofs.lemmas.List.{take_all}
use Rattle.std.proofs.lemmas.List.Elements.{All-push}
use Rattle.std.specs.List.{AllZip}
use Rattle.def_format.specs.Names.{ProcessNames}
use Rattle.def_judgement.specs.Writes.{Source}
use Rattle.app_host.specs.FileSources.{Knows}
use Rattle.app_host.proofs.FilesRead.{sources_of_names}
use Rattle.app_test.specs.Tests.{stream_in}
use Rattle.app_test.proofs.OpenedStreams.{is_past, is_place, source_in, stream_opened_on}
use Rattle.pd_spec.specs.Views.{document_view}
use Rattle.app_test.proofs.run_streams.open_streams.Goals as goal

pub loop-place-init : goal.loop-place-init
loop-place-init g c =
    rw c.new-streams.ensures.items (record { known = tt; unended = λ k d lt. absurd (omega (arith, lt)) })

pub loop-place-preserved : goal.loop-place-preserved
loop-place-preserved g c =
    let files = g.Y.Files.FileSource.file_of c.args.world.now.files.now in
    let lt = is_place (document_view c.args.spec.now).names c.names.result.now c.processes-place-end.result
    c.loop-place.place c.names.ensures c.processes-place-end.ensures c.loop-place-test.true in
    rw c.in_ok-push.ensures.items (record {
      known = stream_opened_on files c.args.folder.now (λ stream. g.Y.Files.File.ByteSource.left stream.source)
          (document_view c.args.spec.now).names c.loop-place.streams.items c.loop-place.place c.in_ok-stream.stream lt
          c.loop-place.invariant.known c.in_ok-stream.ensures.file;
      unended = All-push (λ stream. g.Y.Files.File.ByteSource.has_ended stream.source ≡ false)
          c.loop-place.streams.items c.in_ok-stream.stream c.loop-place.invariant.unended
          c.in_ok-stream.ensures.«open»;
    })

pub returns-clause-known : goal.returns-clause-known
returns-clause-known g c =
    let files = g.Y.Files.FileSource.file_of c.args.world.now.files.now in
    let names = (document_view c.args.spec.now).names in
    let lefts = map (λ stream. g.Y.Files.File.ByteSource.left stream.source) c.loop-place.streams.items in
    let le = is_past names c.names.result.now c.processes-place-end.result c.loop-place.place c.names.ensures
    c.processes-place-end.ensures c.loop-place-test.false in
    subst (λ (sources : List Source). AllZip Knows sources lefts) (sources_of_names files (stream_in c.args.folder.now)
    names)
    (subst (λ (some : List ProcessNames). AllZip Knows (map (source_in files c.args.folder.now) some) lefts)
    (take_all c.loop-place.place names le) c.loop-place.invariant.known)
