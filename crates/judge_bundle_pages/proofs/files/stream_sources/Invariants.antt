-- A source of each of the streams so far.
use Rattle.std.proofs.Common.{◌≡◌, map, take}
use Rattle.def_judgement.specs.Writes.{whole_source}
use Rattle.judge_bundle_pages.proofs.files.stream_sources.Given as goal

abbrev pub invariant-loop-stream : goal.invariant-loop-stream
invariant-loop-stream l =
    map (λ source. whole_source source.rest.now) l.sources.items
    ≡ map (λ stream. whole_source stream.items) (take l.stream-index l.streams)
