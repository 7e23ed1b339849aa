-- The row by its place.
use Rattle.std.proofs.Common.{[], sym, ◌∙◌}
use Rattle.std.specs.Global.{Global}
use Rattle.std.specs.Prelude.{Vec}
use Rattle.wide_slice.specs.declared.points.Point.{Point}
use Rattle.wide_slice.proofs.Lists.{view_is}
use Rattle.wide_slice.proofs.points.row.Goals as goal

pub returns : goal.returns
returns c =
    c.as_slice.ensures.value
    ∙ sym (view_is (λ (v : Vec Point Global). v.items) c.args.rows.now c.index-rows-process.result [] c.args.process
    c.requires c.index-rows-process.is)
