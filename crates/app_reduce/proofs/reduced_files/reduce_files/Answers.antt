-- What a reduction leaves written by the files of these names.
use Rattle.std.proofs.Common.{List, ℕ, ◌∷◌, Err, ap, map, subst, sym}
use Rattle.app_arguments.specs.Statuses.{MayBeUnread, sources_of}
use Rattle.app_arguments.specs.Views.{session_view}
use Rattle.pd_spec.specs.Views.{options_view}
use Rattle.app_host.specs.FileSources.{IsReadOf}
use Rattle.app_host.proofs.UnreadFiles.{unread_check}
use Rattle.app_reduce.specs.Reduced.{ReduceLeaves}
use Rattle.app_reduce.proofs.FilesReduced.{of_read, unread_all, unread_streams, unreserved}
use Rattle.app_reduce.proofs.reduced_files.reduce_files.Goals as goal

pub write_outcome-end-requires-after_bounds : goal.write_outcome-end-requires-after_bounds
write_outcome-end-requires-after_bounds g c = λ _ _.
    let options = options_view c.args.reduction.now.names.options in
    let files = g.Y.Files.FileSource.file_of c.args.world.now.files.now in
    let document = c.args.reduction.now.names.spec.now in
    let lefts = map (λ stream. g.Y.Files.File.ByteSource.left stream.source) c.in-Ok.read.streams.items in
    let read : IsReadOf c.deref.result.now (files document).source =
    subst (λ (bytes : List ℕ). IsReadOf bytes (files document).source) (sym c.deref.ensures.value)
    c.in-Ok.ensures.document in
    of_read files options document (session_view c.args.reduction.now.names).1 c.deref.result.now lefts
    c.in-Ok-reduced_run.outcome read c.in-Ok.ensures.streams c.in-Ok-reduced_run.ensures.outcome

pub returns-in_default : goal.returns-in_default
returns-in_default g c =
    unreserved (g.Y.Files.FileSource.file_of c.args.world.now.files.now)
    (options_view c.args.reduction.now.names.options) c.args.reduction.now.names.spec.now
    (session_view c.args.reduction.now.names).1 c.in-Ok.read.document.items c.in-Ok.ensures.document
    (g.O.Write.contents c.args.output.now)

pub returns-in-Ok : goal.returns-in-Ok
returns-in-Ok g c =
    let files = g.Y.Files.FileSource.file_of c.args.world.now.files.now in
    let document = files c.args.reduction.now.names.spec.now in
    let streams = map files (session_view c.args.reduction.now.names).1 in
    let lefts = map (λ stream. g.Y.Files.File.ByteSource.left stream.source) c.in-Ok.read.streams.items in
    unread_check (options_view c.args.reduction.now.names.options) document
    (MayBeUnread (document ∷ streams) (document ∷ streams))
    (λ inquiry. ReduceLeaves inquiry (sources_of streams))
    (g.O.Write.contents c.args.output.now) c.in-Err-reduced_run.fault c.in-Err-reduced_run.ensures.err
    (λ e. unread_streams (document ∷ streams) document streams lefts c.in-Ok.ensures.streams
    (c.in-Err-reduced_run.ensures.unread (ap Err e)))

pub returns : goal.returns
returns g c =
    let files = g.Y.Files.FileSource.file_of c.args.world.now.files.now in
    let document = files c.args.reduction.now.names.spec.now in
    let streams = map files (session_view c.args.reduction.now.names).1 in
    unread_check (options_view c.args.reduction.now.names.options) document
    (MayBeUnread (document ∷ streams) (document ∷ streams))
    (λ inquiry. ReduceLeaves inquiry (sources_of streams))
    (g.O.Write.contents c.args.output.now) c.in-Err.fault c.in-Err.ensures.err
    (λ e. unread_all (document ∷ streams) document streams (c.in-Err.ensures.unread (ap Err e)))
