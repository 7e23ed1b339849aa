-- What the loop of `push_steps` keeps: what is there and what is to come is the whole.
use Rattle.std.proofs.Common.{◌≡◌, ◌++◌, ◌+◌, ◌≤◌, ℕ, drop, get_or, replicate}
use Rattle.out_picture.specs.Pictures.{steps_shapes}
use Rattle.out_picture.specs.Shapes.{all_seen}
use Rattle.out_picture.specs.Tables.{column_at}
use Rattle.out_picture.proofs.steps.push_steps.Given as goal

abbrev pub invariant-loop-step : goal.invariant-loop-step
invariant-loop-step l = record {
  small : (q : ℕ) → get_or l.counts.items q 0 ≤ l.step;
  rest : all_seen l.shapes.items
      ++ steps_shapes l.window (column_at l.rows) l.counts.items (l.step + 1) (drop l.step l.path)
      ≡ all_seen l.initial.shapes.items ++ steps_shapes l.window (column_at l.rows) (replicate l.processes 0) 1 l.path;
}
