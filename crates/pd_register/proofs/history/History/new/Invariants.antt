-- The rows so far are those of no step.
use Rattle.std.proofs.Common.{◌≡◌, [], length}
use Rattle.def_format.specs.Histories.{rows_of}
use Rattle.pd_register.specs.Views.{rows_view}
use Rattle.pd_register.proofs.history.History.new.Given as goal

abbrev pub invariant-loop : goal.invariant-loop
invariant-loop l = (length l.rows.items ≡ l.counter) × (rows_view l.rows.items ≡ rows_of l.counter [])
