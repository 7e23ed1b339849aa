-- The files so far.
use Rattle.std.proofs.Common.{◌≡◌, map, string_bytes, take}
use Rattle.judge_bundle_pages.specs.BundlePages.{files_of}
use Rattle.judge_bundle_pages.specs.Parts.{bytes_of}
use Rattle.judge_explore.specs.FileViews.{files_view}
use Rattle.judge_bundle_pages.proofs.files.stream_files.Given as goal

abbrev pub invariant-loop-place : goal.invariant-loop-place
invariant-loop-place l =
    files_view l.files.items
    ≡ files_of (take l.place (map string_bytes l.names)) (take l.place (bytes_of l.streams))
