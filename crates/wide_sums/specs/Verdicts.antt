-- Whether some cut of a slice satisfies a comparison.
use Rattle.std.specs.Prelude.{◌≡◌, ◌≢◌, ℕ, Bool, true, List, ℤ, pos, ◌<ℤ◌, ◌≤ℤ◌}
use Rattle.def_model.specs.Predicates.{Comparison, Equals, Differs, IsLess, IsAtMost, IsGreater, IsAtLeast, Recorded}
use Rattle.def_wide.specs.Sums.{AtEach, IsBySmallSteps, excess}
use Rattle.def_wide.specs.Terms.{Literal}

-- the comparison holds where the left sum is more than the right one by this
abbrev pub Relates : Comparison → ℤ → Type 0
Relates Equals x = x ≡ pos 0
Relates Differs x = x ≢ pos 0
Relates IsLess x = x <ℤ pos 0
Relates IsAtMost x = x ≤ℤ pos 0
Relates IsGreater x = pos 0 <ℤ x
Relates IsAtLeast x = pos 0 ≤ℤ x

-- this is so of the excess at some of the cuts
abbrev pub AtSome : (List ℕ → Type 0) → Recorded → Literal → (ℤ → Type 0) → Type 0
AtSome InSlice r l P = (cut : List ℕ) × InSlice cut × P (excess r l cut)

-- Some cut of the slice satisfies the comparison; of `==`, some has no less on the left side, and some no more.
abbrev pub IsNotExcludedAs : Comparison → (List ℕ → Type 0) → Recorded → Literal → Type 0
IsNotExcludedAs Equals InSlice r l =
    AtSome InSlice r l (λ x. pos 0 ≤ℤ x) × AtSome InSlice r l (λ x. x ≤ℤ pos 0)
IsNotExcludedAs Differs InSlice r l = AtSome InSlice r l (Relates Differs)
IsNotExcludedAs IsLess InSlice r l = AtSome InSlice r l (Relates IsLess)
IsNotExcludedAs IsAtMost InSlice r l = AtSome InSlice r l (Relates IsAtMost)
IsNotExcludedAs IsGreater InSlice r l = AtSome InSlice r l (Relates IsGreater)
IsNotExcludedAs IsAtLeast InSlice r l = AtSome InSlice r l (Relates IsAtLeast)

-- ---- `==`

-- An `==` is decided over a slice with this least cut: its excess is never above 0, or never below it, it is 0 at the
-- least cut, or the comparison stands alone and no event can take the excess past 0.
pub data IsSolvedEqual (InSlice : List ℕ → Type 0) (r : Recorded) (l : Literal) (least : List ℕ) (alone : Bool) :
    Type 0 where
  never_above : AtEach InSlice r l (λ x. x ≤ℤ pos 0) → IsSolvedEqual InSlice r l least alone
  never_below : AtEach InSlice r l (λ x. pos 0 ≤ℤ x) → IsSolvedEqual InSlice r l least alone
  at_least : excess r l least ≡ pos 0 → IsSolvedEqual InSlice r l least alone
  by_steps : alone ≡ true → IsBySmallSteps r l → IsSolvedEqual InSlice r l least alone

-- none of that is so
pub record IsNotSolvedEqual (InSlice : List ℕ → Type 0) (r : Recorded) (l : Literal) (least : List ℕ) (alone : Bool) :
    Type 0 where
  pub above : AtSome InSlice r l (λ x. pos 0 <ℤ x)
  pub below : AtSome InSlice r l (λ x. x <ℤ pos 0)
  pub not_at_least : excess r l least ≢ pos 0
  pub not_by_steps : alone ≡ true → ¬ IsBySmallSteps r l
