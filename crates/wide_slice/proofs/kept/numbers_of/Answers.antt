-- The row of values by its place.
use Rattle.std.proofs.Common.{ℤ, List, sym, ap, ◌∙◌}
use Rattle.wide_slice.specs.Values.{number_at}
use Rattle.wide_slice.proofs.Sums.{value_is}
use Rattle.wide_slice.proofs.kept.numbers_of.Goals as goal

pub returns : goal.returns
returns c =
    ap (λ (row : List ℤ). number_at row) c.as_slice.ensures.value
    ∙ sym (value_is c.args.values.now c.args.process c.index-values-process.result c.requires
    c.index-values-process.is)
