-- By how much one sum of a comparison is more than the other, as what each process adds.
use Rattle.def_model.specs.Predicates.{Recorded}
use Rattle.def_wide.specs.Terms.{Literal}
use Rattle.wide_slice.specs.Values.{AreValues}
use Rattle.wide_sums.specs.Values.{IsDifference}
use Rattle.wide_sums.specs.declared.excess.Excess.{Excess}

-- the rows have what each process adds to the left sum less the right one, and to the right one less the left one
pub record IsExcess (r : Recorded) (l : Literal) (excess : Excess) : Type 0 where
  pub above_values : AreValues r.events excess.above.items
  pub above : IsDifference r l.left l.right excess.above.items
  pub below_values : AreValues r.events excess.below.items
  pub below : IsDifference r l.right l.left excess.below.items
