-- How far the flow has come.
use Rattle.std.specs.Prelude.{◌≡◌, ℕ, ◌<◌, ◌≤◌, Bool, List, length, slice_index, Vec}
use Rattle.std.specs.Global.{Global}
use Rattle.wide_flow.specs.declared.step.Step.{Step}
use Rattle.wide_flow.specs.declared.takes.Flow.{Flow}
use Rattle.wide_flow.specs.Flows.{AreBelow, IsFlow, IsFrozen}
use Rattle.wide_flow.specs.Rows.{row_of}
use Rattle.wide_flow.specs.Searches.{AreMembers}

-- The first n steps have what they can get, the others nothing, but for those before m, which may be at it; and of each
-- process this many payers are frozen.
pub record IsPart (processes : ℕ) (steps : List Step) (rows : List (Vec ℕ Global)) (flow : Flow) (frozen : List ℕ)
    (n m : ℕ) : Type 0 where
  pub flow_is : IsFlow steps flow 0 0
  pub frozen_each : length frozen ≡ processes
  pub frozen_in : (p : ℕ) → p < processes → slice_index frozen p ≤ length (row_of rows p)
  pub below : AreBelow m flow.takes.items
  pub set : ℕ → Bool
  pub members : AreMembers processes rows frozen set
  pub is_frozen : IsFrozen steps flow n set
