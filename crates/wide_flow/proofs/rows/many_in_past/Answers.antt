-- The payers up to a count are those in the past.
use Rattle.std.proofs.Common.{ℕ, List, get_or, subst}
use Rattle.wide_flow.specs.Steps.{step_at}
use Rattle.wide_flow.specs.Rows.{IsManyUpTo, row_of}
use Rattle.wide_flow.proofs.SearchSteps.{in_past}
use Rattle.wide_flow.proofs.rows.many_in_past.Goals as goal

pub returns : goal.returns
returns c =
    let steps = c.args.steps.now in
    let p = c.args.process in
    in_past steps p (row_of c.args.rows.now p) c.args.e c.many_up_to.result (c.requires.rows.each p c.requires.process)
    (subst
    (λ (row : List ℕ).
    IsManyUpTo steps row (get_or (step_at steps c.args.e).past.now p 0) c.many_up_to.result)
    c.row.ensures c.many_up_to.ensures)
