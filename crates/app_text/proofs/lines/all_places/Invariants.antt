-- The places so far, and those in what remains.
use Rattle.std.proofs.Common.{◌≡◌, ◌≤◌, ◌+◌, drop, length}
use Rattle.app_text.specs.Lines.{last_or, places_from, quoted}
use Rattle.app_text.proofs.lines.all_places.Given as goal

abbrev pub invariant-loop-place : goal.invariant-loop-place
invariant-loop-place l = record {
  small : l.count ≤ l.place;
  count : l.count + length (places_from l.place (quoted l.name) (drop l.place l.bytes))
      ≡ length (places_from 0 (quoted l.name) l.bytes);
  last : last_or l.last (places_from l.place (quoted l.name) (drop l.place l.bytes))
      ≡ last_or 0 (places_from 0 (quoted l.name) l.bytes);
}
