-- What a run that makes the object leaves written by the files of these names.
use Rattle.std.proofs.Common.{List, ℕ, [], Err, ap, inl, map, refl, subst, sym}
use Rattle.app_arguments.specs.ConditionViews.{fail_on_view}
use Rattle.app_arguments.specs.Statuses.{OfNamed, sources_of}
use Rattle.app_arguments.specs.Views.{session_view}
use Rattle.def_format.specs.Documents.{inquiry_of}
use Rattle.pd_spec.specs.Views.{options_view}
use Rattle.app_explore.specs.Explorations.{AskedObject, OfForm, UnreadPage, all_named}
use Rattle.app_host.specs.Faults.{named_ending}
use Rattle.app_host.specs.FileSources.{IsReadOf, bytes_in}
use Rattle.app_explore.proofs.ExplorationEnds.{exploration_of_files}
use Rattle.app_host.proofs.FilesRead.{leaves_of_read}
use Rattle.app_host.proofs.NamedPredicates.{named_of_file}
use Rattle.app_host.proofs.UnreadFiles.{unread_judgement}
use Rattle.app_explore.proofs.exploration.object_files.Goals as goal

pub returns-in-Ok : goal.returns-in-Ok
returns-in-Ok g c =
    let options = options_view c.args.judgement.now.names.options in
    let fail_on = fail_on_view c.args.judgement.now.fail_on in
    let all = all_named fail_on [] in
    let files = g.Y.Files.FileSource.file_of c.args.world.now.files.now in
    let spec = c.args.judgement.now.names.spec.now in
    let document = files spec in
    let names = (session_view c.args.judgement.now.names).1 in
    let sources = sources_of (map files names) in
    let lefts = map (λ stream. g.Y.Files.File.ByteSource.left stream.source) c.in-Ok.read.streams.items in
    let Read = OfForm (bytes_in files) AskedObject names lefts fail_on in
    let Held = OfForm (bytes_in files) AskedObject names sources fail_on in
    let old = g.O.Write.contents c.args.output.now in
    let new = g.O.Write.contents c.explore_named.new.output in
    let read : IsReadOf c.deref.result.now document.source =
    subst (λ (bytes : List ℕ). IsReadOf bytes document.source) (sym c.deref.ensures.value)
    c.in-Ok.ensures.document in
    leaves_of_read options document c.deref.result.now (UnreadPage files spec names [])
    (OfNamed all Read (inquiry_of options c.deref.result.now)) (OfNamed all Held) old new read
    (λ bytes same. named_of_file all options c.deref.result.now bytes Read Held old new same
    (exploration_of_files options c.deref.result.now bytes sources lefts c.in-Ok.ensures.streams same
    (bytes_in files) AskedObject names fail_on old new))
    (named_ending fail_on c.explore_named.result) (c.explore_named.ensures AskedObject refl refl)

pub returns-in-Err : goal.returns-in-Err
returns-in-Err g c =
    let fail_on = fail_on_view c.args.judgement.now.fail_on in
    let files = g.Y.Files.FileSource.file_of c.args.world.now.files.now in
    let spec = c.args.judgement.now.names.spec.now in
    let names = (session_view c.args.judgement.now.names).1 in
    unread_judgement (options_view c.args.judgement.now.names.options) (files spec)
    (UnreadPage files spec names [])
    (OfNamed (all_named fail_on []) (OfForm (bytes_in files) AskedObject names (sources_of (map files names)) fail_on))
    (g.O.Write.contents c.args.output.now) fail_on c.in-Err.fault c.in-Err.ensures.err
    (λ e. inl (c.in-Err.ensures.unread (ap Err e)))
