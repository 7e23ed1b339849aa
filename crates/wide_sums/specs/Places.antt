-- Which row each comparison has that names one process at most.
use Rattle.std.specs.Prelude.{◌≡◌, ℕ, ◌<◌, List, ◌++◌, Option, Some, None, length, slice_get, slice_index_or}
use Rattle.def_model.specs.Cuts.{FitsProcesses}
use Rattle.def_model.specs.Predicates.{Recorded}
use Rattle.def_wide.specs.Sums.{IsLocalLiteral}
use Rattle.def_wide.specs.Terms.{Literal, literal_holds}
use Rattle.wide_sums.specs.Literals.{no_literal}
use Rattle.wide_terms.specs.Rows.{AreWithin, row_holds}
use Rattle.wide_terms.specs.declared.row.TruthRow.{TruthRow}

-- the row with this number has where the comparison holds
pub record HasRow (r : Recorded) (rows : List TruthRow) (l : Literal) (number : ℕ) : Type 0 where
  pub row : TruthRow
  pub at : slice_get rows number ≡ Some row
  pub holds : (cut : List ℕ) → FitsProcesses r.events cut → row_holds (Some row) cut ≡ literal_holds r l cut

-- the comparison names one process at most and has the row with this number, or it names several
abbrev pub IsPlaceOf : Recorded → List TruthRow → Literal → Option ℕ → Type 0
IsPlaceOf r rows l (Some number) = IsLocalLiteral l × HasRow r rows l number
IsPlaceOf r rows l None = ¬ IsLocalLiteral l

-- rows of processes that are there were put after others, and this is the place of the comparison
pub record AddsPlace (r : Recorded) (l : Literal) (old new : List TruthRow) (place : Option ℕ) : Type 0 where
  pub more : List TruthRow
  pub is : new ≡ old ++ more
  pub within : AreWithin r more
  pub place_of : IsPlaceOf r new l place

-- each comparison has its place, and the rows are of processes that are there
pub record IsPrepared (r : Recorded) (rows : List TruthRow) (literals : List Literal)
    (places : List (Option ℕ)) : Type 0 where
  pub within : AreWithin r rows
  pub one_each : length places ≡ length literals
  pub each : (i : ℕ) → i < length literals
      → IsPlaceOf r rows (slice_index_or literals i no_literal) (slice_index_or places i None)
