-- The comparisons so far have their places.
use Rattle.std.proofs.Common.{map, take}
use Rattle.wide_sums.specs.Literals.{literal_view}
use Rattle.wide_sums.specs.Places.{IsPrepared}
use Rattle.wide_sums.proofs.prepared.push_rows.Given as goal

abbrev pub invariant-loop-literal : goal.invariant-loop-literal
invariant-loop-literal l =
    IsPrepared l.computation l.rows.rows.items (map literal_view (take l.literal-index l.literals)) l.places.items
