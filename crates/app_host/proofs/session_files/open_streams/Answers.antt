-- One more file is open after each turn.
use Rattle.std.proofs.Common.{◌≡◌, map, subst, false, arith}
use Rattle.std.proofs.lemmas.List.{take_all}
use Rattle.std.proofs.lemmas.List.Elements.{All-push}
use Rattle.std.specs.List.{AllZip}
use Rattle.app_host.specs.FileSources.{Knows}
use Rattle.app_host.proofs.FilesRead.{opened_on}
use Rattle.app_host.proofs.session_files.open_streams.Goals as goal

pub loop-place-init : goal.loop-place-init
loop-place-init g c =
    rw c.new-streams.ensures.items (record { known = tt; unended = λ k d lt. absurd (omega (arith, lt)) })

pub loop-place-preserved : goal.loop-place-preserved
loop-place-preserved g c =
    rw c.in_ok-push-in-Ok.ensures.items (record {
      known = opened_on (λ name. (g.Y.Files.FileSource.file_of c.args.world.now.files.now name.now).source)
          (λ stream. g.Y.Files.File.ByteSource.left stream.source)
          c.args.names.now c.loop-place.streams.items c.loop-place.place _ c.in-Ok.stream
          c.loop-place-test.true c.loop-place.invariant.known c.in-Ok.ensures.file;
      unended = All-push (λ stream. g.Y.Files.File.ByteSource.has_ended stream.source ≡ false)
          c.loop-place.streams.items c.in-Ok.stream c.loop-place.invariant.unended c.in-Ok.ensures.«open»;
    })

pub returns-clause-known : goal.returns-clause-known
returns-clause-known g c =
    let all = take_all c.loop-place.place c.args.names.now c.loop-place-test.false in
    subst (λ names. AllZip Knows (map (λ name. (g.Y.Files.FileSource.file_of c.args.world.now.files.now
    name.now).source) names)
    (map (λ stream. g.Y.Files.File.ByteSource.left stream.source) c.loop-place.streams.items)) all
    c.loop-place.invariant.known

pub returns-in-Err-clause-sure : goal.returns-in-Err-clause-sure
returns-in-Err-clause-sure g c all reported =
    let opens = c.in-Err.ensures.sure (all c.loop-place.place _ c.loop-place-test.true) in absurd (cc)
