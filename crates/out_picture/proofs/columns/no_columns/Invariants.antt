-- What the loop of `no_columns` keeps.
use Rattle.std.proofs.Common.{◌≡◌, ℕ, ◌<◌, length, [], ◌∷◌, replicate}
use Rattle.out_picture.specs.Tables.{row_of}
use Rattle.out_picture.proofs.columns.no_columns.Given as goal

abbrev pub invariant-loop-process : goal.invariant-loop-process
invariant-loop-process l = record {
  none : l.done.items ≡ replicate l.processes 0;
  one_each : length l.rows.items ≡ l._process;
  zeros : (p : ℕ) → p < l._process → row_of l.rows.items p ≡ 0 ∷ [];
}
