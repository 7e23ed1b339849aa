-- The streams so far, by the names of their files.
use Rattle.std.proofs.Common.{◌≡◌, map, take}
use Rattle.app_ends.specs.Shown.{file_called}
use Rattle.app_ends.proofs.seen_files.seen_streams.Given as goal

abbrev pub invariant-loop-place : goal.invariant-loop-place
invariant-loop-place l = map (λ stream. stream.file.now) l.seen.items
    ≡ map (λ name. file_called name.now) (take l.place l.names)
