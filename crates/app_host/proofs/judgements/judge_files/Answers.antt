-- What a judgement leaves written by the files of these names.
use Rattle.std.proofs.Common.{List, ℕ, [], ◌∷◌, Err, ap, map, subst, sym}
use Rattle.app_arguments.specs.ConditionViews.{fail_on_view}
use Rattle.app_arguments.specs.Statuses.{MayBeUnread, OfNamed, OfStreams, sources_of}
use Rattle.app_arguments.specs.Views.{session_view}
use Rattle.def_format.specs.Documents.{inquiry_of}
use Rattle.pd_spec.specs.Views.{options_view}
use Rattle.app_host.specs.Faults.{named_ending}
use Rattle.app_host.specs.FileSources.{IsReadOf}
use Rattle.app_host.proofs.FilesRead.{judgement_of_files, leaves_of_read}
use Rattle.app_host.proofs.NamedPredicates.{named_of_file}
use Rattle.app_host.proofs.UnreadFiles.{unread_judgement}
use Rattle.app_host.proofs.judgements.judge_files.Goals as goal

pub returns-in-Ok : goal.returns-in-Ok
returns-in-Ok g c =
    let options = options_view c.args.judgement.now.names.options in
    let fail_on = fail_on_view c.args.judgement.now.fail_on in
    let files = g.Y.Files.FileSource.file_of c.args.world.now.files.now in
    let document = files c.args.judgement.now.names.spec.now in
    let names = (session_view c.args.judgement.now.names).1 in
    let sources = sources_of (map files names) in
    let lefts = map (λ stream. g.Y.Files.File.ByteSource.left stream.source) c.in-Ok.read.streams.items in
    let old = g.O.Write.contents c.args.output.now in
    let new = g.O.Write.contents c.judge_named.new.output in
    let read : IsReadOf c.deref.result.now document.source =
    subst (λ (bytes : List ℕ). IsReadOf bytes document.source) (sym c.deref.ensures.value) c.in-Ok.ensures.document in
    leaves_of_read options document c.deref.result.now (MayBeUnread (document ∷ map files names) (document ∷ []))
    (OfNamed fail_on (OfStreams lefts fail_on) (inquiry_of options c.deref.result.now))
    (OfNamed fail_on (OfStreams sources fail_on)) old new read
    (λ bytes same. named_of_file fail_on options c.deref.result.now bytes (OfStreams lefts fail_on)
    (OfStreams sources fail_on) old new same
    (judgement_of_files options c.deref.result.now bytes sources lefts fail_on old new
    c.in-Ok.ensures.streams same))
    (named_ending fail_on c.judge_named.result) c.judge_named.ensures

pub returns-in-Err : goal.returns-in-Err
returns-in-Err g c =
    let fail_on = fail_on_view c.args.judgement.now.fail_on in
    let files = g.Y.Files.FileSource.file_of c.args.world.now.files.now in
    let document = files c.args.judgement.now.names.spec.now in
    let names = (session_view c.args.judgement.now.names).1 in
    unread_judgement (options_view c.args.judgement.now.names.options) document
    (MayBeUnread (document ∷ map files names) (document ∷ []))
    (OfNamed fail_on (OfStreams (sources_of (map files names)) fail_on))
    (g.O.Write.contents c.args.output.now) fail_on c.in-Err.fault c.in-Err.ensures.err
    (λ e. c.in-Err.ensures.unread (ap Err e))
