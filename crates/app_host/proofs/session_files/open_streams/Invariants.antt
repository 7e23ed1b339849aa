-- The files so far are open.
use Rattle.std.proofs.Common.{◌≡◌, map, take, false}
use Rattle.std.specs.List.{AllZip}
use Rattle.std.specs.Prelude.{All}
use Rattle.app_host.specs.FileSources.{Knows}
use Rattle.app_host.proofs.session_files.open_streams.Given as goal

abbrev pub invariant-loop-place : goal.invariant-loop-place
invariant-loop-place g l = record {
  known : AllZip Knows (map (λ name. (g.Y.Files.FileSource.file_of l.world.files.now name.now).source) (take
      l.place l.names))
      (map (λ stream. g.Y.Files.File.ByteSource.left stream.source) l.streams.items);
  unended : All (λ stream. g.Y.Files.File.ByteSource.has_ended stream.source ≡ false) l.streams.items;
}
