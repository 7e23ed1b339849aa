-- The columns of the events of a run with a causal cycle, as a table keeps them.
use Rattle.std.specs.Prelude.{◌≡◌, ◌<◌, ℕ, List, length, Vec}
use Rattle.std.specs.Global.{Global}
use Rattle.def_model.specs.Events.{Computation, Place, event_count}
use Rattle.out_picture.specs.Cycles.{cycle_row, shift}
use Rattle.out_picture.specs.Tables.{row_of}

-- a row for each process, which begins with a 0 before its first event
pub record IsCycleTable (c : Computation) (cycle : List Place) (rows : List (Vec ℕ Global)) : Type 0 where
  pub one_each : length rows ≡ length c
  pub rows_are : (p : ℕ) → p < length c → row_of rows p ≡ cycle_row (shift cycle p) (event_count c p)
