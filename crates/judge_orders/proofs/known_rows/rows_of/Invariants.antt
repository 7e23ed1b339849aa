-- The rows so far.
use Rattle.std.proofs.Common.{◌≡◌, take}
use Rattle.std.specs.Prelude.{flat_map}
use Rattle.judge_orders.specs.RankTables.{row_at}
use Rattle.judge_orders.proofs.known_rows.rows_of.Given as goal

abbrev pub invariant-loop-number : goal.invariant-loop-number
invariant-loop-number l = l.known.items ≡ flat_map (row_at l.width l.rows) (take l.number-index l.numbers)
