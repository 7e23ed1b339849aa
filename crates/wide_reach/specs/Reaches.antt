-- The cuts of a slice at which a sum reaches a total, and the lowest of them.
use Rattle.std.specs.Prelude.{◌≡◌, ℕ, Bool, List, ℤ, ◌≤ℤ◌, Vec}
use Rattle.std.specs.Global.{Global}
use Rattle.def_model.specs.Events.{Computation}
use Rattle.def_wide.specs.Heights.{IsLowerThan}
use Rattle.wide_slice.specs.Steps.{IsInside}
use Rattle.wide_slice.specs.Values.{sum_at}

-- the cut is one of the slice, and the sum reaches the total at it
abbrev pub HasTotal : Computation → (ℕ → ℕ → Bool) → List (Vec ℤ Global) → ℤ → List ℕ → Type 0
HasTotal c good values total cut = IsInside c good cut × (total ≤ℤ sum_at values cut)

-- the lowest of the cuts at which the sum reaches the total
pub record IsLowestWith (c : Computation) (good : ℕ → ℕ → Bool) (values : List (Vec ℤ Global)) (total : ℤ)
    (cut : List ℕ) : Type 0 where
  pub has : HasTotal c good values total cut
  pub lowest : (other : List ℕ) → HasTotal c good values total other → ¬ (other ≡ cut) → IsLowerThan cut other

-- there is none
abbrev pub HasNoneWith : Computation → (ℕ → ℕ → Bool) → List (Vec ℤ Global) → ℤ → Type 0
HasNoneWith c good values total = (cut : List ℕ) → ¬ HasTotal c good values total cut
