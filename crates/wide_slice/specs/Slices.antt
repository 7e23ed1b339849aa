-- The slice: the consistent cuts at which each process is at a good count, by the counts that processes have in them.
-- `good p n` says whether count n of process p is good.
use Rattle.std.specs.Prelude.{ℕ, Bool}
use Rattle.def_model.specs.Events.{Computation}
use Rattle.wide_conjunctions.specs.LeastCuts.{IsLeastGood}
pub use Rattle.wide_slice.specs.Goods.{good_from}
use Rattle.wide_slice.specs.Points.{AreAsked, AreRows}
use Rattle.wide_slice.specs.declared.slice.Slice.{Slice}

-- What is known of a slice. (Its other parts are the crate's own.)
pub record IsSlice (c : Computation) (good : ℕ → ℕ → Bool) (slice : Slice) : Type 0 where
  pub least : IsLeastGood c good slice.least.items
  pub rows : AreRows c good slice.least.items slice.rows.items
  pub asked : AreAsked c slice.rows.items slice.asked.items
