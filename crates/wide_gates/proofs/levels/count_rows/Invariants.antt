-- The rows so far.
use Rattle.std.proofs.Common.{◌≡◌, ℕ, ◌<◌, get_or, length, ℤ}
use Rattle.std.specs.Prelude.{Vec}
use Rattle.std.specs.Global.{Global}
use Rattle.def_model.specs.Events.{event_count}
use Rattle.wide_gates.specs.Levels.{IsCountRow}
use Rattle.wide_gates.proofs.levels.count_rows.Given as goal

abbrev pub invariant-loop-process : goal.invariant-loop-process
invariant-loop-process l = record {
  many : length l.rows.items ≡ l.process;
  each : (q : ℕ) (d : Vec ℤ Global) → q < l.process
      → IsCountRow (event_count l.computation.events q) (get_or l.rows.items q d).items;
}
