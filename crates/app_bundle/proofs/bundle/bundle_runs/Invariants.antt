-- The runs so far are bundled.
use Rattle.std.proofs.Common.{map, take}
use Rattle.app_bundle.proofs.WrittenRuns.{AreBundled}
use Rattle.app_bundle.proofs.bundle.bundle_runs.Given as goal

abbrev pub invariant-loop-folder : goal.invariant-loop-folder
invariant-loop-folder g l =
    AreBundled (g.Y.Files.FileSource.file_of l.world.files.now)
    (take l.folder-index (map (λ name. name.now) l.runs)) l.all (g.O.Write.contents l.fn.output)
    (g.O.Write.contents l.output)
