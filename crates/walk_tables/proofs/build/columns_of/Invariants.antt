-- The columns of the processes so far.
use Rattle.std.proofs.Common.{◌≤◌, vec_len}
use Rattle.pd_pred.specs.Trees.{terms_view}
use Rattle.walk_tables.specs.Tables.{HaveParts}
use Rattle.walk_tables.proofs.build.columns_of.Given as goal

abbrev pub invariant-loop-process : goal.invariant-loop-process
invariant-loop-process l = record {
  few : vec_len l.columns ≤ l.process;
  parts : HaveParts l.computation (terms_view l.left) (terms_view l.right) l.process l.columns.items;
}
