-- The texts of the streams so far.
use Rattle.std.proofs.Common.{map, string_bytes, take}
use Rattle.std.specs.List.{AllZip}
use Rattle.app_bundle.proofs.StreamsRead.{source_in}
use Rattle.pd_spec.specs.Views.{document_view}
use Rattle.app_bundle.specs.Bundles.{IsStreamOf}
use Rattle.app_bundle.proofs.streams.streams_of.Given as goal

abbrev pub invariant-loop-place : goal.invariant-loop-place
invariant-loop-place g l =
    AllZip IsStreamOf (map (source_in (g.Y.Files.FileSource.file_of l.world.files.now) l.folder)
    (take l.place (document_view l.spec).names)) (map string_bytes l.texts.items)
