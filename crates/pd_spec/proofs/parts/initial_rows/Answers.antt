-- The initial values of each process's variables, in the order of the processes.
use Rattle.std.proofs.Common.{ℤ, Vec, Global, ◌∙◌}
use Rattle.pd_spec.specs.Outlines.{row_in, process_view}
use Rattle.pd_spec.proofs.Mapped.{mapped_more, numbers_of_values}
use Rattle.pd_spec.proofs.parts.initial_rows.Goals as goal

pub loop-process-preserved : goal.loop-process-preserved
loop-process-preserved c =
    mapped_more (λ (row : Vec ℤ Global). row.items) row_in process_view c.args.processes.now
    c.loop-process.process-index c.process-item.result c.loop-process.rows.items _ c.in_ok-initial_row.field-0
    c.loop-process-test.true c.process-item.is c.loop-process.invariant c.in_ok-push.ensures.items
    (c.in_ok-initial_row.ensures ∙ numbers_of_values c.process-item.result.vars.now.entries)
