-- The lines so far.
use Rattle.std.proofs.Common.{◌≡◌, ◌++◌, take}
use Rattle.def_format.specs.OtherTexts.{snapshot_text}
use Rattle.pd_register.specs.Views.{rows_view}
use Rattle.judge_session.proofs.snapshots.push_rows.Given as goal

abbrev pub invariant-loop-i : goal.invariant-loop-i
invariant-loop-i l =
    l.out.items ≡ l.initial.out.items ++ snapshot_text l.names (rows_view (take l.i l.rows))
