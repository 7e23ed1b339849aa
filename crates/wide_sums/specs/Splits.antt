-- What a term is made of: the comparisons that name one process at most, and the others.
use Rattle.std.specs.Prelude.{◌≡◌, ℕ, ◌<◌, ◌⊎◌, ◌↔◌, All, List, [], ◌∷◌, ◌++◌, Option, Some, None, length}
use Rattle.def_model.specs.Cuts.{IsConsistent}
use Rattle.def_model.specs.Predicates.{Recorded}
use Rattle.def_wide.specs.Sums.{IsInSlice, IsLocalLiteral}
use Rattle.def_wide.specs.Terms.{Literal}
use Rattle.wide_conjunctions.specs.LeastCuts.{IsGood}
use Rattle.wide_sums.specs.Places.{HasRow}
use Rattle.wide_terms.specs.Rows.{term_allows}
use Rattle.wide_terms.specs.declared.row.TruthRow.{TruthRow}

-- The sums are the comparisons of the term that name several processes, in its order.
abbrev pub AreSums : List Literal → List Literal → Type 0
AreSums [] sums = sums ≡ []
AreSums (l ∷ term) sums =
    (IsLocalLiteral l × AreSums term sums)
    ⊎ ((¬ IsLocalLiteral l) × ((rest : List Literal) × (sums ≡ l ∷ rest) × AreSums term rest))

-- The numbers are those of the rows of the other ones.
abbrev pub AreLocals : Recorded → List TruthRow → List Literal → List ℕ → Type 0
AreLocals r rows [] numbers = numbers ≡ []
AreLocals r rows (l ∷ term) numbers =
    (IsLocalLiteral l
    × ((number : ℕ) × (rest : List ℕ) × (numbers ≡ number ∷ rest) × HasRow r rows l number
    × AreLocals r rows term rest))
    ⊎ ((¬ IsLocalLiteral l) × AreLocals r rows term numbers)

-- the comparison was put after the others of its kind
abbrev pub IsPut : Option ℕ → Literal → List ℕ → List ℕ → List Literal → List Literal → Type 0
IsPut (Some number) l old_numbers new_numbers old_sums new_sums =
    (new_numbers ≡ old_numbers ++ number ∷ []) × (new_sums ≡ old_sums)
IsPut None l old_numbers new_numbers old_sums new_sums =
    (new_numbers ≡ old_numbers) × (new_sums ≡ old_sums ++ l ∷ [])

-- These are the sums of the term, and the counts that are good for these rows are those of its slice.
pub record IsSplit (r : Recorded) (rows : List TruthRow) (term : List Literal) (numbers : List ℕ) (sums : List Literal)
    : Type 0 where
  pub sums_of : AreSums term sums
  pub there : All (λ k. k < length rows) numbers
  pub good : (cut : List ℕ) → (IsConsistent r.events cut × IsGood (term_allows rows numbers) cut) ↔ IsInSlice r term cut
