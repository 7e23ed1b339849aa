-- The texts so far are the first parts.
use Rattle.std.proofs.Common.{◌-◌, ◌≤◌, drop, length, map}
use Rattle.std.specs.Prelude.{string_bytes}
use Rattle.read_parts.proofs.TextLists.{HasTexts}
use Rattle.read_parts.proofs.texts.part_texts.Given as goal

abbrev pub invariant-parts : goal.invariant-parts
invariant-parts l = record {
  within : l.from ≤ length l.bytes;
  has : HasTexts l.bytes (drop l.from l.bytes) (map string_bytes l.texts.items);
}

abbrev pub decreases-parts : goal.decreases-parts
decreases-parts l = length l.bytes - l.from
