-- What the streams so far say.
use Rattle.std.proofs.Common.{map, take}
use Rattle.std.specs.List.{AllZip}
use Rattle.app_infer.specs.Outcomes.{IsSaidIn}
use Rattle.app_infer.proofs.stream_files.add_streams.Given as goal

abbrev pub invariant-loop-place : goal.invariant-loop-place
invariant-loop-place g l =
    AllZip (IsSaidIn (g.Y.Files.FileSource.file_of l.world.files.now)) (map (λ name. name.now) (take l.place l.names))
    l.session
