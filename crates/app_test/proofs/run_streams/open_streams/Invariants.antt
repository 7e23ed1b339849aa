-- The streams so far are open.
use Rattle.std.proofs.Common.{◌≡◌, false, map, take}
use Rattle.std.specs.List.{AllZip}
use Rattle.std.specs.Prelude.{All}
use Rattle.app_host.specs.FileSources.{Knows}
use Rattle.app_test.proofs.OpenedStreams.{source_in}
use Rattle.pd_spec.specs.Views.{document_view}
use Rattle.app_test.proofs.run_streams.open_streams.Given as goal

abbrev pub invariant-loop-place : goal.invariant-loop-place
invariant-loop-place g l = record {
  known : AllZip Knows (map (source_in (g.Y.Files.FileSource.file_of l.world.files.now) l.folder)
      (take l.place (document_view l.spec).names))
      (map (λ stream. g.Y.Files.File.ByteSource.left stream.source) l.streams.items);
  unended : All (λ stream. g.Y.Files.File.ByteSource.has_ended stream.source ≡ false) l.streams.items;
}
