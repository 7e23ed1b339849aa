-- The values of a process stand in its row.
use Rattle.std.proofs.Common.{◌≤◌, ℤ, sym, subst}
use Rattle.std.specs.Prelude.{unsigned_abs}
use Rattle.wide_slice.specs.Values.{value_limit}
use Rattle.wide_sums.proofs.SmallSteps.{row_rises, row_value}
use Rattle.wide_sums.proofs.steps.process_rises_by_one.Goals as goal

pub row_rises_by_one-requires-clause-small : goal.row_rises_by_one-requires-clause-small
row_rises_by_one-requires-clause-small c n =
    subst (λ (x : ℤ). unsigned_abs x ≤ value_limit)
    (sym (row_value c.args.values.now c.args.p c.index-values-p.result c.deref.result.now c.requires.there
    c.deref.ensures.value c.index-values-p.is n))
    (c.requires.values.small c.args.p n)

pub returns : goal.returns
returns c =
    row_rises c.args.computation.now.events c.args.values.now c.args.p c.deref.result.now c.events.result
    c.row_rises_by_one.result c.events.ensures
    (row_value c.args.values.now c.args.p c.index-values-p.result c.deref.result.now c.requires.there
    c.deref.ensures.value c.index-values-p.is)
    c.row_rises_by_one.ensures
