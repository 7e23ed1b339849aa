-- The text is written, after the folder.
use Rattle.std.proofs.Common.{Err, ◌∙◌, subst, sym}
use Rattle.app_arguments.specs.Views.{session_view}
use Rattle.judge_session.specs.declared.fault.EngineFault.{EngineFault}
use Rattle.pd_spec.specs.Views.{options_view}
use Rattle.app_reduce.specs.Files.{RunLeaves, reduce_ending}
use Rattle.app_reduce.proofs.FilesReduced.{cut, unsaved, written}
use Rattle.app_reduce.proofs.reduced_files.write_outcome.Goals as goal

pub returns-then-not-branch : goal.returns-then-not-branch
returns-then-not-branch g c =
    unsaved (g.Y.Files.FileSource.file_of c.args.world.now.files.now)
    (options_view c.args.reduction.now.names.options) c.args.reduction.now.names.spec.now
    (session_view c.args.reduction.now.names).1 c.args.outcome c.requires (g.O.Write.contents c.args.output.now)

pub returns-in-Ok : goal.returns-in-Ok
returns-in-Ok g c =
    written (g.Y.Files.FileSource.file_of c.args.world.now.files.now)
    (options_view c.args.reduction.now.names.options) c.args.reduction.now.names.spec.now
    (session_view c.args.reduction.now.names).1 c.args.outcome c.requires (g.O.Write.contents c.args.output.now)
    (g.O.Write.contents c.write_flushed.new.output)
    (rw (sym (c.deref.ensures.value ∙ c.in_ok-text.ensures)) c.in-Ok.ensures.written)

pub returns-in-Err : goal.returns-in-Err
returns-in-Err g c =
    let files = g.Y.Files.FileSource.file_of c.args.world.now.files.now in
    let options = options_view c.args.reduction.now.names.options in
    let document = c.args.reduction.now.names.spec.now in
    let streams = (session_view c.args.reduction.now.names).1 in
    let old = g.O.Write.contents c.args.output.now in
    let new = g.O.Write.contents c.write_flushed.new.output in
    let part = c.in-Err.ensures.part in
    subst (λ (fault : EngineFault). RunLeaves files options document streams (reduce_ending (Err fault)) old new)
    (sym c.in-Err.ensures.err)
    (cut files options document streams c.args.outcome c.requires old new part.0
    (rw (sym (c.deref.ensures.value ∙ c.in_ok-text.ensures)) part.2))
