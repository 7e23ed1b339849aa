-- The parts so far.
use Rattle.std.proofs.Common.{◌≡◌, ◌+◌, ◌-◌, ◌≤◌, false, length}
use Rattle.def_format.specs.Limits.{stream_count_limit}
use Rattle.read_bundle.specs.Steps.{HasParts}
use Rattle.app_parts.specs.Names.{names_of, part_names}
use Rattle.app_parts.specs.PartsKept.{bytes_of}
use Rattle.app_parts.proofs.parts.read_parts.Given as goal

abbrev pub invariant-parts : goal.invariant-parts
invariant-parts g l = record {
  has : HasParts l.begins (g.R.ByteSource.left l.fn.reader) (g.R.ByteSource.left l.reader) (bytes_of l.parts.items)
      l.bundle;
  names : names_of l.parts.items ≡ part_names (length l.parts.items);
  few : length l.parts.items ≤ stream_count_limit + 2;
  ready : l.bundle.ended ≡ false → g.R.ByteSource.has_ended l.reader ≡ false;
}

abbrev pub decreases-parts : goal.decreases-parts
decreases-parts g l = stream_count_limit + 2 - length l.parts.items
