-- The streams so far.
use Rattle.std.proofs.Common.{◌≡◌, map, take, Some}
use Rattle.app_ends.specs.Shown.{bytes_view, part_view}
use Rattle.app_ends.proofs.seen_parts.streams_of.Given as goal

abbrev pub invariant-loop-part : goal.invariant-loop-part
invariant-loop-part l = map bytes_view l.seen.items ≡ map (λ part. Some (part_view part)) (take l.part-index l.streams)
