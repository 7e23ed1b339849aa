-- The row by its place.
use Rattle.std.proofs.Common.{ℕ, sym, ap, ◌∙◌}
use Rattle.std.specs.Global.{Global}
use Rattle.std.specs.Prelude.{Vec}
use Rattle.wide_flow.proofs.RowSteps.{row_is}
use Rattle.wide_flow.proofs.rows.row.Goals as goal

pub returns : goal.returns
returns c =
    c.as_slice.ensures.value
    ∙ (ap (λ (v : Vec ℕ Global). v.items) c.index-rows-process.is
    ∙ sym (row_is c.args.rows.now c.args.process c.index-rows-process.result c.requires))
