-- What the loop of `rows` keeps.
use Rattle.std.proofs.Common.{◌≡◌, ℕ, ◌<◌, get_or, length}
use Rattle.def_model.specs.Events.{event_count}
use Rattle.wide_conjunctions.specs.declared.rows.Row.{Row}
use Rattle.wide_conjunctions.specs.Rows.{IsRow}
use Rattle.wide_conjunctions.proofs.rows.rows.Given as goal

abbrev pub invariant-loop-p : goal.invariant-loop-p
invariant-loop-p g l = record {
  count : length l.rows.items ≡ l.p;
  each : (q : ℕ) (d : Row) → q < l.p → IsRow (g.G.GoodCounts.good l.wanted q) (event_count l.computation.events q)
      (get_or l.rows.items q d).starts.items (get_or l.rows.items q d).leaves.items;
}
