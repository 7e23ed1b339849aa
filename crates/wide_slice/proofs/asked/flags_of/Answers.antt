-- The marks by their place.
use Rattle.std.proofs.Common.{Bool, [], sym, ◌∙◌}
use Rattle.std.specs.Global.{Global}
use Rattle.std.specs.Prelude.{Vec}
use Rattle.wide_slice.proofs.Lists.{view_is}
use Rattle.wide_slice.proofs.asked.flags_of.Goals as goal

pub returns : goal.returns
returns c =
    c.as_slice.ensures.value
    ∙ sym (view_is (λ (v : Vec Bool Global). v.items) c.args.asked.now c.index-asked-process.result [] c.args.process
    c.requires c.index-asked-process.is)
