-- The names so far.
use Rattle.std.proofs.Common.{◌≡◌, map, string_bytes}
use Rattle.judge_bundle_pages.specs.BundlePages.{stream_names}
use Rattle.judge_bundle_pages.proofs.files.stream_names.Given as goal

abbrev pub invariant-loop-place : goal.invariant-loop-place
invariant-loop-place l = map string_bytes l.names.items ≡ stream_names l.bundle l.place
