-- The session that is written has the answers of the run.
use Rattle.app_arguments.specs.Views.{session_view}
use Rattle.pd_spec.specs.Views.{options_view}
use Rattle.app_reduce.proofs.FilesReduced.{session_of_files}
use Rattle.app_reduce.proofs.reduced_files.save_outcome.Goals as goal

pub save_session-requires : goal.save_session-requires
save_session-requires g c =
    let bounds = c.type_bounds in
    let session = session_of_files (g.Y.Files.FileSource.file_of c.args.world.now.files.now)
    (options_view c.args.reduction.now.names.options) c.args.reduction.now.names.spec.now
    (session_view c.args.reduction.now.names).1 c.in-Made.made (rw c.in-Made.is at c.requires) in (
      bounds.send-Y-Files-File,
      (
        bounds.send-Y-Files-Sink,
        (
          bounds.send-Y-Network-Connection,
          (
            bounds.sync-Y-Runtime,
            (bounds.sync-Y-Files, (bounds.sync-Y-Network, (bounds.sync-Y-Network-Listener, session))),
          ),
        ),
      ),
    )
